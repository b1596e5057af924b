-- Both directions between two ends over all epochs, and what each change of one end keeps, whatever the flags are.
use Rattle.std.proofs.Common.{◌≡◌, ℕ, ◌+◌, ◌≤◌, Bool, true, false, List, [], ◌∷◌, refl, ap, sym, ◌∙◌, subst, arith, None, inl, inr}
use Rattle.xp_protocol.specs.Records.{Recorded}
use Rattle.xp_protocol.specs.Parts.{IsRequestSize}
use Rattle.xp_base.specs.declared.session.Session.{Session}
use Rattle.xp_protocol.specs.Promised.{Name, name_of}
use Rattle.xp_protocol.specs.Sending.{Sending, payload_of, send_over}
use Rattle.xp_protocol.specs.Pulling.{Pulling}
use Rattle.xp_protocol.specs.State.{End, Size, is_begun}
use Rattle.xp_promises.proofs.Direction.{Out, In, Kept, NewOut, NewIn, send_ended, counters_set, take_set, copy_ended}
use Rattle.xp_promises.proofs.Books.{core, HasFirst, Same, at, named, names, Below, below_more, name_here, name_else}
use Rattle.xp_promises.proofs.Ways.{InSide, out_of, in_of, reach, Way, set_out, set_in, opens_out, opens_in, free_out, free_in, left_out, left_in, noted_out, noted_in, blank_out, blank_in}

-- the words of an end that directions read
pub record Data : Type 0 where
  pub put : ℕ
  pub get : ℕ
  pub entry : ℕ → ℕ

-- what of an end directions read
pub record Parts : Type 0 where
  pub epoch : ℕ
  pub begun : Bool
  pub requested : Bool
  pub opened : Bool
  pub get_zero : Bool
  pub put_zero : Bool
  pub send : Sending
  pub inn : InSide

abbrev pub in_side : End → InSide
in_side e = record { pull = e.sides.pull; ack = e.sides.ack; stored = e.sides.local_get }

abbrev pub parts : End → Parts
parts e = record { epoch = e.epoch; begun = is_begun e; requested = e.shake.sent.open_request; opened = e.shake.sent.open_complete; get_zero = e.shake.get_zero; put_zero = e.shake.put_zero; send = e.sides.send; inn = in_side e }

-- the sizes of both sides
pub record Sizes : Type 0 where
  pub entries : ℕ
  pub limit : ℕ
  pub their_entries : ℕ
  pub their_limit : ℕ

abbrev pub sizes : Sending → InSide → Sizes
sizes s i = record { entries = s.entries; limit = s.limit; their_entries = i.pull.entries; their_limit = i.pull.limit }

abbrev pub out_size : Sending → Size
out_size s = record { entries = s.entries; limit = s.limit }

abbrev pub in_size : Pulling → Size
in_size i = record { entries = i.entries; limit = i.limit }

-- sides at which nothing happened yet
pub record IdleOut (s : Sending) : Type 0 where
  pub put : s.put ≡ 0
  pub known : s.remote_get ≡ 0
  pub next : payload_of s.send ≡ []
  pub stored : s.written_words ≡ 0

pub record IdleIn (i : InSide) : Type 0 where
  pub stored : i.stored ≡ 0
  pub front : i.ack.front ≡ 0
  pub later : i.ack.released_from_front ≡ []
  pub count : i.pull.taken ≡ 0
  pub cache : i.pull.cache ≡ []
  pub pulled : i.pull.pulled ≡ 0
  pub seen : i.pull.pulled_put ≡ 0
  pub copied : i.pull.copied ≡ []

-- an end by itself: the newest record is that of the epoch that is begun; in an epoch that isn't opened nothing happened yet, and the zeros that were stored stand
pub record Mine (u v : Session) (x : Data) (rs : List Recorded) (p : Parts) : Type 0 where
  pub first : p.begun ≡ true → HasFirst (at u v p.epoch) rs
  pub below : Below u v (p.epoch + 1) (names rs)
  pub fresh : p.begun ≡ false → Below u v p.epoch (names rs)
  pub ready : p.requested ≡ true → (p.get_zero ≡ true) × (p.put_zero ≡ true)
  pub out : p.opened ≡ false → IdleOut p.send
  pub inn : p.opened ≡ false → IdleIn p.inn
  pub put_word : p.opened ≡ false → p.put_zero ≡ true → x.put ≡ 0
  pub get_word : p.opened ≡ false → p.get_zero ≡ true → x.get ≡ 0

pub record Rest (u v : Session) (x y : Data) (rs ss : List Recorded) (p r : Parts) : Type 0 where
  pub sends : Way u v x.put x.entry y.get rs ss p.epoch r.epoch p.opened r.opened p.send r.inn
  pub gets : Way v u y.put y.entry x.get ss rs r.epoch p.epoch r.opened p.opened r.send p.inn
  pub mine : Mine u v x rs p
  pub theirs : Mine v u y ss r

pub turned : (u v : Session) (x y : Data) (rs ss : List Recorded) (p r : Parts) → Rest u v x y rs ss p r → Rest v u y x ss rs r p
turned u v x y rs ss p r h = record { sends = h.gets; gets = h.sends; mine = h.theirs; theirs = h.mine }

-- notes that directions don't read
pub noted : (u v : Session) (x y : Data) (rs rs' ss : List Recorded) (p r : Parts) → Same rs rs' → Rest u v x y rs ss p r → Rest u v x y rs' ss p r
noted u v x y rs rs' ss p r same h = record {
  theirs = h.theirs;
  sends = noted_out u v _ _ _ rs ss _ _ _ _ _ _ rs' same.core h.sends;
  gets = noted_in v u _ _ _ ss rs _ _ _ _ _ _ rs' same.core h.gets;
  mine = record { first = λ d. same.first (at u v p.epoch) (h.mine.first d); below = subst (λ (ks : List Name). Below u v (p.epoch + 1) ks) (sym same.names) h.mine.below; fresh = λ d. subst (λ (ks : List Name). Below u v p.epoch ks) (sym same.names) (h.mine.fresh d); ready = h.mine.ready; out = h.mine.out; inn = h.mine.inn; put_word = h.mine.put_word; get_word = h.mine.get_word };
}

-- an end is begun, or isn't: its newest record is that of its epoch
pub begun_by : (u v : Session) (x y : Data) (rs ss : List Recorded) (p r : Parts) (b : Bool) → b ≡ true → HasFirst (at u v p.epoch) rs → Rest u v x y rs ss p r → Rest u v x y rs ss (record p { begun = b }) r
begun_by u v x y rs ss p r b on has h = record {
  theirs = h.theirs;
  sends = h.sends;
  gets = h.gets;
  mine = record { first = λ d. has; below = h.mine.below; fresh = λ d. absurd (cc); ready = h.mine.ready; out = h.mine.out; inn = h.mine.inn; put_word = h.mine.put_word; get_word = h.mine.get_word };
}

-- the open request is sent, after both zeros
pub requests : (u v : Session) (x y : Data) (rs ss : List Recorded) (p r : Parts) → p.get_zero ≡ true → p.put_zero ≡ true → Rest u v x y rs ss p r → Rest u v x y rs ss (record p { requested = true }) r
requests u v x y rs ss p r get_zero put_zero h = record {
  theirs = h.theirs;
  sends = h.sends;
  gets = h.gets;
  mine = record { first = h.mine.first; below = h.mine.below; fresh = h.mine.fresh; ready = λ d. (get_zero, put_zero); out = h.mine.out; inn = h.mine.inn; put_word = h.mine.put_word; get_word = h.mine.get_word };
}

-- both sides are made anew in an epoch that isn't opened
pub sides_anew : (u v : Session) (x y : Data) (rs ss : List Recorded) (p r : Parts) (s' : Sending) (i' : InSide) → p.opened ≡ false → IdleOut s' → IdleIn i' → Rest u v x y rs ss p r → Rest u v x y rs ss (record p { send = s'; inn = i' }) r
sides_anew u v x y rs ss p r s' i' off idle idle' h = record {
  theirs = h.theirs;
  sends = free_out u v x.put x.entry y.get rs ss p.epoch r.epoch p.opened r.opened p.send r.inn x.put x.entry s' off h.sends;
  gets = free_in v u y.put y.entry x.get ss rs r.epoch p.epoch r.opened p.opened r.send p.inn x.get i' off h.gets;
  mine = record { first = h.mine.first; below = h.mine.below; fresh = h.mine.fresh; ready = h.mine.ready; out = λ d. idle; inn = λ d. idle'; put_word = h.mine.put_word; get_word = h.mine.get_word };
}

-- the newest record changes in its place
newest_else : (u v : Session) (n : Recorded → Recorded) (r : Recorded) (more : List Recorded) (e k : ℕ) → name_of r ≡ at u v e → name_of (n r) ≡ name_of r → (e ≡ k → ⊥) → named u v k (n r ∷ more) ≡ named u v k (r ∷ more)
newest_else u v n r more e k name same d =
    let f : r.epoch ≡ e = ap (λ (z : Name). z.epoch) name in
    let g : (n r).epoch ≡ r.epoch = ap (λ (z : Name). z.epoch) same in
    name_else u v k (n r) more (λ h. d (sym f ∙ sym g ∙ h)) ∙ sym (name_else u v k r more (λ h. d (sym f ∙ h)))

-- both ends have opened the same epoch, and one makes a step
module _ (u v : Session) (x y x' : Data) (n : Recorded → Recorded) (z : Recorded) (more ss : List Recorded) (p r : Parts) (s' : Sending) (i' : InSide) (one : name_of (n z) ≡ name_of z)
    (opened : p.opened ≡ true) (their_opened : r.opened ≡ true) (even : p.epoch ≡ r.epoch) (name : name_of z ≡ at u v p.epoch) (h : Rest u v x y (z ∷ more) ss p r) where
  abbrev theirs_now : Recorded
  theirs_now = named v u r.epoch ss

  own_out : h.sends.out p.epoch ≡ out_of x.put x.entry z p.send
  own_out = h.sends.out_live opened ∙ ap (λ (k : Recorded). out_of x.put x.entry k p.send) (name_here (at u v p.epoch) z more name)

  their_in : h.sends.inn p.epoch ≡ in_of y.get theirs_now r.inn
  their_in = ap h.sends.inn even ∙ h.sends.in_live their_opened

  own_in : h.gets.inn p.epoch ≡ in_of x.get z p.inn
  own_in = h.gets.in_live opened ∙ ap (λ (k : Recorded). in_of x.get k p.inn) (name_here (at u v p.epoch) z more name)

  their_out : h.gets.out p.epoch ≡ out_of y.put y.entry theirs_now r.send
  their_out = ap h.gets.out even ∙ h.gets.out_live their_opened

  pub sends_now : Kept (out_of x.put x.entry z p.send) (in_of y.get theirs_now r.inn)
  sends_now = subst (λ (o : Out). Kept o (in_of y.get theirs_now r.inn)) own_out (subst (λ (i : In). Kept (h.sends.out p.epoch) i) their_in (h.sends.kept p.epoch))

  pub gets_now : Kept (out_of y.put y.entry theirs_now r.send) (in_of x.get z p.inn)
  gets_now = subst (λ (o : Out). Kept o (in_of x.get z p.inn)) their_out (subst (λ (i : In). Kept (h.gets.out p.epoch) i) own_in (h.gets.kept p.epoch))

  name' : named u v p.epoch (n z ∷ more) ≡ n z
  name' = name_here (at u v p.epoch) (n z) more (one ∙ name)

  never : reach r.epoch r.opened ≤ p.epoch → ⊥
  never le = let e : r.epoch + 1 ≤ p.epoch = subst (λ (o : Bool). reach r.epoch o ≤ p.epoch) their_opened le in absurd (omega (arith, e, even))

  pub went_on : Kept (out_of x'.put x'.entry (n z) s') (in_of y.get theirs_now r.inn) → Kept (out_of y.put y.entry theirs_now r.send) (in_of x'.get (n z) i') → Rest u v x' y (n z ∷ more) ss (record p { send = s'; inn = i' }) r
  went_on a b =
      let out' : Kept (out_of x'.put x'.entry (named u v p.epoch (n z ∷ more)) s') (h.sends.inn p.epoch) = subst (λ (k : Recorded). Kept (out_of x'.put x'.entry k s') (h.sends.inn p.epoch)) (sym name') (subst (λ (i : In). Kept (out_of x'.put x'.entry (n z) s') i) (sym their_in) a) in
      let in' : Kept (h.gets.out p.epoch) (in_of x'.get (named u v p.epoch (n z ∷ more)) i') = subst (λ (k : Recorded). Kept (h.gets.out p.epoch) (in_of x'.get k i')) (sym name') (subst (λ (o : Out). Kept o (in_of x'.get (n z) i')) (sym their_out) b) in
      let set_o = set_out u v x.put x.entry y.get (z ∷ more) ss p.epoch r.epoch p.opened r.opened p.send r.inn x'.put x'.entry (n z ∷ more) s' h.sends out' (λ le. absurd (never le)) (λ e d. ap (λ (k : Recorded). k.accepted) (newest_else u v n z more p.epoch e name one d)) in
      let set_i = set_in v u y.put y.entry x.get ss (z ∷ more) r.epoch p.epoch r.opened p.opened r.send p.inn x'.get (n z ∷ more) i' h.gets in' (λ le. absurd (never le)) (λ e d. ap core (newest_else u v n z more p.epoch e name one d)) in
      record {
        theirs = h.theirs;
        sends = subst (λ (o : Bool). Way u v x'.put x'.entry y.get (n z ∷ more) ss p.epoch r.epoch o r.opened s' r.inn) (sym opened) set_o;
        gets = subst (λ (o : Bool). Way v u y.put y.entry x'.get ss (n z ∷ more) r.epoch p.epoch r.opened o r.send i') (sym opened) set_i;
        mine = record { first = λ d. one ∙ name; below = subst (λ (k : Name). Below u v (p.epoch + 1) (k ∷ names more)) (sym one) h.mine.below; fresh = λ d. subst (λ (k : Name). Below u v p.epoch (k ∷ names more)) (sym one) (h.mine.fresh d); ready = h.mine.ready; out = λ d. absurd (cc); inn = λ d. absurd (cc); put_word = λ d. absurd (cc); get_word = λ d. absurd (cc) };
      }

-- the connection goes down: what is in progress is over
abbrev pub pull_over : Pulling → Pulling
pull_over x = record x { counters = None; copied = []; run = 0; owed = false; take = None; empty = None }

in_over : (o : Out) (get : ℕ) (k : Recorded) (i : InSide) → Kept o (in_of get k i) → Kept o (in_of get k (record i { pull = pull_over i.pull }))
in_over o get k i l =
    let a = copy_ended o (in_of get k i) l in
    let b = counters_set o _ None i.pull.known false a in
    take_set o _ None None b

module _ (u v : Session) (x y : Data) (rs ss : List Recorded) (p r : Parts) (b : Bool) (yes : b ≡ true) (has : HasFirst (at u v p.epoch) rs) (h : Rest u v x y rs ss p r) where
  abbrev over_parts : Bool → Parts
  over_parts o = record p { begun = b; opened = o; send = send_over p.send; inn = record p.inn { pull = pull_over p.inn.pull } }

  over_by : (o : Bool) → p.opened ≡ o → Rest u v x y rs ss (over_parts o) r
  over_by true on =
      let own = named u v p.epoch rs in
      let o = out_of x.put x.entry own p.send in
      let i = in_of x.get own p.inn in
      let a = send_ended o (h.sends.inn p.epoch) (subst (λ (k : Out). Kept k (h.sends.inn p.epoch)) (h.sends.out_live on) (h.sends.kept p.epoch)) in
      let c = in_over (h.gets.out p.epoch) x.get own p.inn (subst (λ (k : In). Kept (h.gets.out p.epoch) k) (h.gets.in_live on) (h.gets.kept p.epoch)) in
      record {
        theirs = h.theirs;
        sends = set_out u v x.put x.entry y.get rs ss p.epoch r.epoch p.opened r.opened p.send r.inn x.put x.entry rs (send_over p.send) h.sends a (λ le. new_out _ _ (subst (λ (k : Out). NewOut (h.sends.n p.epoch) (h.sends.limit p.epoch) k) (h.sends.out_live on) (h.sends.new p.epoch (inr le)).0)) (λ e d. refl);
        gets = set_in v u y.put y.entry x.get ss rs r.epoch p.epoch r.opened p.opened r.send p.inn x.get rs (record p.inn { pull = pull_over p.inn.pull }) h.gets c (λ le. new_in _ _ (subst (λ (k : In). NewIn (h.gets.n p.epoch) (h.gets.limit p.epoch) k) (h.gets.in_live on) (h.gets.new p.epoch (inl le)).1)) (λ e d. refl);
        mine = record { first = λ d. has; below = h.mine.below; fresh = λ d. absurd (cc); ready = h.mine.ready; out = λ d. absurd (cc); inn = λ d. absurd (cc); put_word = λ d. absurd (cc); get_word = λ d. absurd (cc) };
      }
    where
      new_out : (n limit : ℕ) → NewOut n limit (out_of x.put x.entry (named u v p.epoch rs) p.send) → NewOut n limit (out_of x.put x.entry (named u v p.epoch rs) (send_over p.send))
      new_out n limit k = record { entries = k.entries; size = k.size; word = k.word; put = k.put; known = k.known; accepted = k.accepted; next = refl; stored = refl }

      new_in : (n limit : ℕ) → NewIn n limit (in_of x.get (named u v p.epoch rs) p.inn) → NewIn n limit (in_of x.get (named u v p.epoch rs) (record p.inn { pull = pull_over p.inn.pull }))
      new_in n limit k = record { entries = k.entries; size = k.size; word = k.word; acked = k.acked; stored = k.stored; front = k.front; later = k.later; count = k.count; taken = k.taken; cache = k.cache; pulled = k.pulled; seen = k.seen; copied = refl }
  over_by false off =
      let i = h.mine.inn off in
      let o = h.mine.out off in
      let turn : (t : Bool) → t ≡ false → (T : Bool → Type 0) → T t → T false = λ t e T k. subst T e k in
      record {
        theirs = h.theirs;
        sends = turn p.opened off (λ t. Way u v x.put x.entry y.get rs ss p.epoch r.epoch t r.opened (send_over p.send) r.inn) (free_out u v x.put x.entry y.get rs ss p.epoch r.epoch p.opened r.opened p.send r.inn x.put x.entry (send_over p.send) off h.sends);
        gets = turn p.opened off (λ t. Way v u y.put y.entry x.get ss rs r.epoch p.epoch r.opened t r.send (record p.inn { pull = pull_over p.inn.pull })) (free_in v u y.put y.entry x.get ss rs r.epoch p.epoch r.opened p.opened r.send p.inn x.get (record p.inn { pull = pull_over p.inn.pull }) off h.gets);
        mine = record {
          first = λ d. has;
          below = h.mine.below;
          fresh = λ d. absurd (cc);
          ready = h.mine.ready;
          out = λ d. record { put = o.put; known = o.known; next = refl; stored = refl };
          inn = λ d. record { stored = i.stored; front = i.front; later = i.later; count = i.count; cache = i.cache; pulled = i.pulled; seen = i.seen; copied = refl };
          put_word = λ d. h.mine.put_word off;
          get_word = λ d. h.mine.get_word off;
        };
      }

  pub went_over : Rest u v x y rs ss (over_parts p.opened) r
  went_over = over_by p.opened refl

-- a record is begun in an epoch that isn't opened
pub book_begun : (u v : Session) (x y : Data) (rs ss : List Recorded) (p r : Parts) (z : Recorded) → p.opened ≡ false → name_of z ≡ at u v p.epoch → z.accepted ≡ [] → z.taken ≡ [] → z.acked ≡ 0 → p.begun ≡ false → Rest u v x y rs ss p r → Rest u v x y (z ∷ rs) ss (record p { begun = true }) r
book_begun u v x y rs ss p r z off name none none' zero idle h = record {
  theirs = h.theirs;
  sends = blank_out u v x.put x.entry y.get rs ss p.epoch r.epoch p.opened r.opened p.send r.inn z off name none h.sends;
  gets = blank_in v u y.put y.entry x.get ss rs r.epoch p.epoch r.opened p.opened r.send p.inn z off name none' zero h.gets;
  mine = record { first = λ d. name; below = (λ d. omega (arith, ap (λ (k : Name). k.epoch) name), h.mine.below); fresh = λ d. absurd (cc); ready = h.mine.ready; out = h.mine.out; inn = h.mine.inn; put_word = h.mine.put_word; get_word = h.mine.get_word };
}

-- the epoch is opened: the sizes of both sides are those of the partner's, if that has opened it
module _ (u v : Session) (x y : Data) (rs ss : List Recorded) (p r : Parts) (b : Bool) (yes : b ≡ true) (off : p.opened ≡ false) (get_zero : p.get_zero ≡ true) (put_zero : p.put_zero ≡ true) (has : HasFirst (at u v p.epoch) rs)
    (even : p.epoch ≡ r.epoch) (own : IsRequestSize p.send.entries p.send.limit) (their : IsRequestSize p.inn.pull.entries p.inn.pull.limit) (fit : r.opened ≡ true → (in_size r.inn.pull ≡ out_size p.send) × (out_size r.send ≡ in_size p.inn.pull)) (h : Rest u v x y rs ss p r) where
  pub opens : Rest u v x y rs ss (record p { begun = b; opened = true }) r
  opens =
      let o = h.mine.out off in
      let i = h.mine.inn off in
      record {
        theirs = h.theirs;
        sends = opens_out u v x.put x.entry y.get rs ss p.epoch r.epoch p.opened r.opened p.send r.inn off even own.0 own.1 own.3 (λ d. (let f = (fit d).0 in (ap (λ (z : Size). z.entries) f, ap (λ (z : Size). z.limit) f)))
            (λ n limit e l none. record { entries = e; size = l; word = h.mine.put_word off put_zero; put = o.put; known = o.known; next = o.next; stored = o.stored; accepted = none }) h.sends;
        gets = opens_in v u y.put y.entry x.get ss rs r.epoch p.epoch r.opened p.opened r.send p.inn off even their.0 their.1 their.3 (λ d. (let f = (fit d).1 in (ap (λ (z : Size). z.entries) f, ap (λ (z : Size). z.limit) f)))
            (λ n limit e l none zero. record { entries = e; size = l; word = h.mine.get_word off get_zero; stored = i.stored; front = i.front; later = i.later; count = i.count; cache = i.cache; pulled = i.pulled; seen = i.seen; copied = i.copied; taken = none; acked = zero }) h.gets;
        mine = record { first = λ d. has; below = h.mine.below; fresh = λ d. absurd (cc); ready = h.mine.ready; out = λ d. absurd (cc); inn = λ d. absurd (cc); put_word = λ d. absurd (cc); get_word = λ d. absurd (cc) };
      }

-- the epoch is over
abbrev pub next_parts : Parts → Sending → InSide → Parts
next_parts p s i = record { epoch = p.epoch + 1; begun = false; requested = false; opened = false; get_zero = false; put_zero = false; send = s; inn = i }

pub leaves_epoch : (u v : Session) (x y : Data) (rs ss : List Recorded) (p r : Parts) (s : Sending) (i : InSide) → IdleOut s → IdleIn i → Rest u v x y rs ss p r → Rest u v x y rs ss (next_parts p s i) r
leaves_epoch u v x y rs ss p r s i o k h = record {
  theirs = h.theirs;
  sends = left_out u v x.put x.entry y.get rs ss p.epoch r.epoch p.opened r.opened p.send s r.inn h.sends;
  gets = left_in v u y.put y.entry x.get ss rs r.epoch p.epoch r.opened p.opened r.send p.inn i h.gets;
  mine = record { first = λ d. absurd (cc); below = below_more u v (p.epoch + 1) (p.epoch + 1 + 1) (names rs) (omega arith) h.mine.below; fresh = λ d. h.mine.below; ready = λ d. absurd (cc); out = λ d. o; inn = λ d. k; put_word = λ d e. absurd (cc); get_word = λ d e. absurd (cc) };
}

-- a counter is stored as 0 in an epoch that isn't opened
pub put_zeroed : (u v : Session) (x y : Data) (rs ss : List Recorded) (p r : Parts) → p.opened ≡ false → Rest u v x y rs ss p r → Rest u v (record x { put = 0 }) y rs ss (record p { put_zero = true }) r
put_zeroed u v x y rs ss p r off h = record {
  theirs = h.theirs;
  gets = h.gets;
  sends = free_out u v x.put x.entry y.get rs ss p.epoch r.epoch p.opened r.opened p.send r.inn 0 x.entry p.send off h.sends;
  mine = record { first = h.mine.first; below = h.mine.below; fresh = h.mine.fresh; ready = λ d. ((h.mine.ready d).0, refl); out = h.mine.out; inn = h.mine.inn; put_word = λ d e. refl; get_word = h.mine.get_word };
}

pub get_zeroed : (u v : Session) (x y : Data) (rs ss : List Recorded) (p r : Parts) → p.opened ≡ false → Rest u v x y rs ss p r → Rest u v (record x { get = 0 }) y rs ss (record p { get_zero = true }) r
get_zeroed u v x y rs ss p r off h = record {
  theirs = h.theirs;
  sends = h.sends;
  gets = free_in v u y.put y.entry x.get ss rs r.epoch p.epoch r.opened p.opened r.send p.inn 0 p.inn off h.gets;
  mine = record { first = h.mine.first; below = h.mine.below; fresh = h.mine.fresh; ready = λ d. (refl, (h.mine.ready d).1); out = h.mine.out; inn = h.mine.inn; put_word = h.mine.put_word; get_word = λ d e. refl };
}

-- both directions as they are, where both ends have opened the same epoch
pub sent_kept : (u v : Session) (x y : Data) (rs ss : List Recorded) (p r : Parts) → p.opened ≡ true → r.opened ≡ true → p.epoch ≡ r.epoch → Rest u v x y rs ss p r → Kept (out_of x.put x.entry (named u v p.epoch rs) p.send) (in_of y.get (named v u r.epoch ss) r.inn)
sent_kept u v x y rs ss p r on their even h =
    subst (λ (o : Out). Kept o (in_of y.get (named v u r.epoch ss) r.inn)) (h.sends.out_live on) (subst (λ (i : In). Kept (h.sends.out p.epoch) i) (ap h.sends.inn even ∙ h.sends.in_live their) (h.sends.kept p.epoch))

pub got_kept : (u v : Session) (x y : Data) (rs ss : List Recorded) (p r : Parts) → p.opened ≡ true → r.opened ≡ true → p.epoch ≡ r.epoch → Rest u v x y rs ss p r → Kept (out_of y.put y.entry (named v u r.epoch ss) r.send) (in_of x.get (named u v p.epoch rs) p.inn)
got_kept u v x y rs ss p r on their even h = sent_kept v u y x ss rs r p their on (sym even) (turned u v x y rs ss p r h)
