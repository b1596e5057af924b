-- What the handshake of an end leaves of a fact of it: how flags that were taken are handled, how a
-- channel closes, and how an epoch ends, are said once.
use Rattle.std.proofs.Common.{◌≡◌, ℕ, zero, suc, Bool, true, false, List, [], ◌∷◌, refl, Option, Some, None}
use Rattle.std.specs.Prelude.{if◌then◌else◌}
use Rattle.xp_base.specs.declared.link.Kind.{Kind}
use Rattle.xp_base.specs.declared.link.Kind.TheVariants.{CloseRequest, CloseReply, OpenRequest, OpenReply, OpenComplete, MsgRequest}
use Rattle.xp_base.specs.declared.reason.Reason.{Reason}
use Rattle.xp_base.specs.declared.reason.Reason.TheVariants.{PartnerClosed, UnequalSizes, BadArgs}
use Rattle.xp_base.specs.Kinds.{without, next_of}
use Rattle.xp_protocol.specs.declared.contact.Replied.{Replied}
use Rattle.xp_protocol.specs.Effects.{Note, just, and_then}
use Rattle.xp_protocol.specs.State.{Size, End, is_connected, size_in}
use Rattle.xp_protocol.specs.Linking.{hear, hears, close_now, down_notes, down_end, channel_closed, epoch_over, is_ended, limit_in, are_unequal, unequal, changed, kind_left, kind_got, is_request, request_handled, reply_handled, is_code, code_handled, refused, kind_refused, well_handled, handled, has_argument, handled_next, settle, settled}

-- what a fact of an end has to stand
pub record SettleKeeps (P : End → Type 0) : Type 0 where
  pub heard : (n : Note) (e : End) → P e → P (hear n e)
  pub down : (reason : Reason) (e : End) → e.shake.reason ≡ None → P e → P (down_end reason e)
  pub over : (e : End) → is_ended e ≡ true → P e → P (epoch_over e).local
  pub left : (k : Kind) (e : End) → refused k e ≡ true → has_argument k e.shake ≡ true → P e → P (kind_left k e)
  pub got : (k : Kind) (e : End) → refused k e ≡ false → has_argument k e.shake ≡ true → P e → P (kind_got k e)
  pub dropped : (e : End) → P e → P (record e { shake = record e.shake { taken = without MsgRequest e.shake.taken } })
  pub owing : (e : End) → P e → P (record e { sides = record e.sides { pull = record e.sides.pull { owed = true } } })
  pub sized : (e : End) (size : Option Size) → refused OpenRequest e ≡ false → has_argument OpenRequest e.shake ≡ true → P e → let y = kind_got OpenRequest e in P (record y { shake = record y.shake { their_size = size } })

module _ (P : End → Type 0) (z : SettleKeeps P) where
  pub hears_keep : (ns : List Note) (e : End) → P e → P (hears ns e)
  hears_keep [] e h = h
  hears_keep (n ∷ ns) e h = hears_keep ns (hear n e) (z.heard n e h)

  -- the channel closes, and an epoch ends
  closes : (o : Option Reason) (reason : Reason) (e : End) → e.shake.reason ≡ o → P e → P (close_now o reason e).local
  closes (Some first) reason e i h = h
  closes None reason e i h = hears_keep (down_notes reason e) (down_end reason e) (z.down reason e i h)

  pub channel : (reason : Reason) (e : End) → P e → P (channel_closed reason e).local
  channel reason e h = closes e.shake.reason reason e refl h

  unequals : (b : Bool) (e : End) → P e → P (if b then channel_closed (UnequalSizes (limit_in e.shake.own_size) (limit_in e.shake.their_size)) e else just e).local
  unequals true e h = channel (UnequalSizes (limit_in e.shake.own_size) (limit_in e.shake.their_size)) e h
  unequals false e h = h

  changes : (b : Bool) (e : End) → is_ended e ≡ b → P e → P (if b then epoch_over e else unequal e).local
  changes true e i h = z.over e i h
  changes false e i h = unequals (are_unequal e) e h

  pub change : (e : End) → P e → P (changed e).local
  change e h = changes (is_ended e) e refl h

  -- flags are handled
  messages : (b : Bool) (e : End) → P e → P (if b then just (record e { sides = record e.sides { pull = record e.sides.pull { owed = true } } }) else just e).local
  messages true e h = z.owing e h
  messages false e h = h

  request_by : (b : Bool) (w : ℕ) (e : End) → refused OpenRequest e ≡ false → has_argument OpenRequest e.shake ≡ true → P e → let y = kind_got OpenRequest e in P (if b then just (record y { shake = record y.shake { their_size = Some (size_in w) } }) else channel_closed (BadArgs w) y).local
  request_by true w e i j h = z.sized e (Some (size_in w)) i j h
  request_by false w e i j h = channel (BadArgs w) (kind_got OpenRequest e) (z.got OpenRequest e i j h)

  requested : (o : Option ℕ) (e : End) → refused OpenRequest e ≡ false → has_argument OpenRequest e.shake ≡ true → P e → P (request_handled o (kind_got OpenRequest e)).local
  requested None e i j h = z.got OpenRequest e i j h
  requested (Some w) e i j h = request_by (is_request w) w e i j h

  reply_by : (b : Bool) (w : ℕ) (e : End) → P e → P (if b then just e else channel_closed (BadArgs w) e).local
  reply_by true w e h = h
  reply_by false w e h = channel (BadArgs w) e h

  replied : (o : Option Replied) (e : End) → P e → P (reply_handled o e).local
  replied None e h = h
  replied (Some x) e h = reply_by x.right x.word e h

  code_by : (b : Bool) (w : ℕ) (e : End) → P e → P (if b then channel_closed (PartnerClosed w) e else channel_closed (BadArgs w) e).local
  code_by true w e h = channel (PartnerClosed w) e h
  code_by false w e h = channel (BadArgs w) e h

  coded : (o : Option ℕ) (e : End) → P e → P (code_handled o e).local
  coded None e h = h
  coded (Some w) e h = code_by (is_code w) w e h

  well : (k : Kind) (e : End) → refused k e ≡ false → has_argument k e.shake ≡ true → P e → P (well_handled k e).local
  well MsgRequest e i j h = let y = record e { shake = record e.shake { taken = without MsgRequest e.shake.taken } } in messages (is_connected y) y (z.dropped e h)
  well OpenRequest e i j h = requested e.shake.request e i j h
  well OpenReply e i j h = replied e.shake.reply (kind_got OpenReply e) (z.got OpenReply e i j h)
  well CloseRequest e i j h = coded e.shake.code (kind_got CloseRequest e) (z.got CloseRequest e i j h)
  well CloseReply e i j h = z.got CloseReply e i j h
  well OpenComplete e i j h = z.got OpenComplete e i j h

  handles : (b : Bool) (k : Kind) (e : End) → refused k e ≡ b → has_argument k e.shake ≡ true → P e → P (if b then kind_refused k e else well_handled k e).local
  handles true k e i j h = z.left k e i j h
  handles false k e i j h = well k e i j h

  handles_next : (b : Bool) (k : Kind) (e : End) → has_argument k e.shake ≡ b → P e → P (if b then and_then (handled k e) changed else just e).local
  handles_next true k e j h = change (handled k e).local (handles (refused k e) k e refl j h)
  handles_next false k e j h = h

  next : (o : Option Kind) (e : End) → P e → P (handled_next o e).local
  next None e h = h
  next (Some k) e h = handles_next (has_argument k e.shake) k e refl h

  settles : (n : ℕ) (e : End) → P e → P (settle n e).local
  settles zero e h = h
  settles (suc n) e h = let o = next_of e.shake.got.close_request e.shake.taken in settles n (handled_next o e).local (next o e h)

  pub all_settles : (e : End) → P e → P (settled e).local
  unfolding settled
  all_settles e h = settles 6 e h
