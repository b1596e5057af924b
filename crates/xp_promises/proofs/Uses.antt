-- What an open end may rely on of its partner's record of the same connection: how far that has acknowledged, and how much it may still write.
use Rattle.std.proofs.Common.{◌≡◌, ℕ, ◌+◌, ◌%◌, ◌<◌, ◌≤◌, List, length, ap, sym, subst, arith}
use Rattle.xp_base.specs.declared.session.Session.{Session}
use Rattle.xp_protocol.specs.Records.{Recorded}
use Rattle.xp_protocol.specs.State.{End}
use Rattle.xp_base.specs.Entries.{lines}
use Rattle.xp_protocol.specs.Sending.{words_each, next_slot}
use Rattle.xp_promises.proofs.Ring.{within_times, mod_less}
use Rattle.xp_promises.proofs.Direction.{Kept}
use Rattle.xp_promises.proofs.FlagUse.{copying}
use Rattle.xp_promises.proofs.Books.{named}
use Rattle.xp_promises.proofs.Ways.{out_of, in_of}
use Rattle.xp_promises.proofs.Rests.{in_side}
use Rattle.xp_promises.proofs.Lines.{Area, five, control, view, Line}
use Rattle.xp_promises.proofs.Steps.{Open, sent_at, got_at}

module _ (x y : Area) (q c : ℕ) (e : End) (opens : Open x y e) (u v : Session) (rs ss : List Recorded) (b : End) (l : Line u v x y rs ss (view e) (view b)) where
  same_epoch : e.epoch ≡ b.epoch
  same_epoch = (copying (control e) (control b) (five x.flags) (five y.flags) (opens.copy (control b) l.flags) l.flags).even

  abbrev their_book : Recorded
  their_book = named v u e.epoch ss

  sends : Kept (out_of x.ring.put x.ring.entry (named u v e.epoch rs) e.sides.send) (in_of y.ring.get their_book (in_side b))
  sends = subst (λ (n : ℕ). Kept (out_of x.ring.put x.ring.entry (named u v e.epoch rs) e.sides.send) (in_of y.ring.get (named v u n ss) (in_side b))) (sym same_epoch) (sent_at x y q c e opens u v rs ss b l)

  gets : Kept (out_of y.ring.put y.ring.entry their_book b.sides.send) (in_of x.ring.get (named u v e.epoch rs) (in_side e))
  gets = subst (λ (n : ℕ). Kept (out_of y.ring.put y.ring.entry (named v u n ss) b.sides.send) (in_of x.ring.get (named u v e.epoch rs) (in_side e))) (sym same_epoch) (got_at x y q c e opens u v rs ss b l)

  -- both ends count slots alike, and all words of a slot stand in the queue
  pub same_lines : (lines b.sides.pull.limit ≡ lines e.sides.send.limit) × (b.sides.pull.entries ≡ e.sides.send.entries)
  same_lines = (ap lines sends.chain.same_limit, sends.chain.same_entries)

  pub slot_within : (f : ℕ) → f < words_each e.sides.send → next_slot e.sides.send + f < 128
  slot_within f low =
      let c = sends.chain in
      let p = within_times (words_each e.sides.send) (e.sides.send.put % e.sides.send.entries) f e.sides.send.entries (mod_less e.sides.send.put e.sides.send.entries c.some_entries) low in
      let q = c.fits in
      omega (arith, p, q)

  -- a get that is known was stored by the partner in this connection: numbers below it may be told as delivered
  pub known_acked : e.sides.send.remote_get ≤ (named v u e.epoch ss).acked
  known_acked = let k = sends.chain in omega (arith, k)

  -- where a word of an entry may be written, the message that stood there was acknowledged in this connection
  pub has_room : e.sides.send.put < e.sides.send.remote_get + e.sides.send.entries → length (named u v e.epoch rs).accepted < e.sides.send.entries + (named v u e.epoch ss).acked
  has_room below = let k = sends.chain in omega (arith, k, below)

  -- what may be stored as get was taken in this connection
  pub front_taken : e.sides.ack.front ≤ length (named u v e.epoch rs).taken
  front_taken = let k = gets.chain in omega (arith, k)
