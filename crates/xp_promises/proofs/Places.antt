-- Which words of a direction a row writes: those of its own end alone, and no row but a store writes any.
use Rattle.std.proofs.Common.{◌≡◌, ℕ, Bool, true, false, ◌&&◌, cond, eqb, refl, ap, sym, ◌∙◌, inl, inr, ◌⊎◌}
use Rattle.std.proofs.lemmas.Bool.{cases_eq, eq-eqb, ne_eqb}
use Rattle.xp_base.specs.declared.step.OpKind.{OpKind}
use Rattle.xp_base.specs.Places.{Place, Counter, Entry, Args, index_of}
use Rattle.xp_meetings.proofs.Words.{Words, write, does, self, far}
use Rattle.xp_promises.proofs.Direction.{write_entry}
use Rattle.std.proofs.Common.{◌+◌, bit_or}
use Rattle.std.specs.Int.{bit_at}
use Rattle.std.specs.Prelude.{◌*◌, nat_eq}
use Rattle.std.proofs.lemmas.Nat.Bits.{bit_at-zero}
use Rattle.xp_base.specs.declared.link.Kind.{Kind}
use Rattle.xp_base.specs.Places.{Flag}
use Rattle.xp_base.specs.Kinds.{kinds_in, no_kinds, also, flag}
use Rattle.xp_base.proofs.KindLemmas.{kinds_in-set, kinds_in-set_elsewhere}
use Rattle.xp_promises.proofs.Rests.{Data}
use Rattle.xp_promises.proofs.Lines.{data_at, sheet_at, area_at}
use Rattle.xp_promises.proofs.Arguments.{Sheet}
use Rattle.xp_protocol.specs.declared.rule.Argument.{Argument}
use Rattle.xp_protocol.specs.declared.rule.Argument.TheVariants.{Request, Reply, Code}
use Rattle.xp_protocol.specs.Linking.{argument_field}
use Rattle.xp_promises.proofs.Steps.{ringed}
use Rattle.xp_promises.proofs.Shakes.{flagged, unflagged}

-- the end of q on channel c is not that of k on channel d
abbrev pub Other : ℕ → ℕ → ℕ → ℕ → Type 0
Other k d q c = k ≡ q → d ≡ c → ⊥

other_end : (a : Bool) (k d q c : ℕ) → Other k d q c → (a && (eqb d c && eqb k q)) ≡ false
other_end false k d q c o = refl
other_end true k d q c o = by (cases_eq d c) where
  by : (d ≡ c) ⊎ (d ≡ c → ⊥) → (eqb d c && eqb k q) ≡ false
  by (inl e) = rw (eq-eqb d c e) (ne_eqb k q (λ f. o f e))
  by (inr n) = rw (ne_eqb d c n) refl

other_counter : (w : Words) (a k d g v q c h : ℕ) → Other k d q c → write w a (Counter k d g) v a (Counter q c h) ≡ w a (Counter q c h)
other_counter w a k d g v q c h o = rw (other_end (eqb g h) k d q c o) refl

other_entry : (w : Words) (a k d i v q c j : ℕ) → Other k d q c → write w a (Entry k d i) v a (Entry q c j) ≡ w a (Entry q c j)
other_entry w a k d i v q c j o = rw (other_end (eqb i j) k d q c o) refl

counter_written : (w : Words) (a q c g v : ℕ) → write w a (Counter q c g) v a (Counter q c g) ≡ v
counter_written w a q c g v = rw (self g, self c, self q, self a) refl

argument_written : (w : Words) (a q c g v : ℕ) → write w a (Args q c g) v a (Args q c g) ≡ v
argument_written w a q c g v = rw (self g, self c, self q, self a) refl

entry_at : (b : Bool) (v x : ℕ) → cond ((b && (true && true)) && true) v x ≡ cond b v x
entry_at true v x = refl
entry_at false v x = refl

entry_written : (w : Words) (a q c i v j : ℕ) → write w a (Entry q c i) v a (Entry q c j) ≡ write_entry (λ k. w a (Entry q c k)) i v j
entry_written w a q c i v j = rw (self c, self q, self a) (entry_at (eqb i j) v (w a (Entry q c j)))

-- the words of an end after a store at it, at another end, and at another partition
pub put_here : (w : Words) (a q c v : ℕ) → data_at (write w a (Counter q c 1) v a) q c ≡ record (data_at (w a) q c) { put = v }
put_here w a q c v = λ i. record (data_at (w a) q c) { put = counter_written w a q c 1 v i }

pub get_here : (w : Words) (a q c v : ℕ) → data_at (write w a (Counter q c 0) v a) q c ≡ record (data_at (w a) q c) { get = v }
get_here w a q c v = λ i. record (data_at (w a) q c) { get = counter_written w a q c 0 v i }

pub entry_here : (w : Words) (a q c i v : ℕ) → data_at (write w a (Entry q c i) v a) q c ≡ record (data_at (w a) q c) { entry = write_entry (data_at (w a) q c).entry i v }
entry_here w a q c i v = λ j. record (data_at (w a) q c) { entry = λ k. entry_written w a q c i v k j }

pub counter_other : (w : Words) (a k d g v q c : ℕ) → Other k d q c → data_at (write w a (Counter k d g) v a) q c ≡ data_at (w a) q c
counter_other w a k d g v q c o = λ i. record { put = other_counter w a k d g v q c 1 o i; get = other_counter w a k d g v q c 0 o i; entry = λ k. w a (Entry q c k) }

pub entry_other : (w : Words) (a k d i v q c : ℕ) → Other k d q c → data_at (write w a (Entry k d i) v a) q c ≡ data_at (w a) q c
entry_other w a k d i v q c o = λ j. record { put = w a (Counter q c 1); get = w a (Counter q c 0); entry = λ m. other_entry w a k d i v q c m o j }

pub data_far : (w : Words) (k : OpKind) (a : ℕ) (pl : Place) (p q c : ℕ) → (p ≡ a → ⊥) → data_at (does k a pl w p) q c ≡ data_at (w p) q c
data_far w k a pl p q c n =
    let f : (x : Place) → does k a pl w p x ≡ w p x = λ x. far k a pl w p x (λ d. n (sym d)) in
    λ i. record { put = f (Counter q c 1) i; get = f (Counter q c 0) i; entry = λ j. f (Entry q c j) i }

pub sheet_far : (w : Words) (k : OpKind) (a : ℕ) (pl : Place) (p q c : ℕ) → (p ≡ a → ⊥) → sheet_at (does k a pl w p) q c ≡ sheet_at (w p) q c
sheet_far w k a pl p q c n =
    let f : (x : Place) → does k a pl w p x ≡ w p x = λ x. far k a pl w p x (λ d. n (sym d)) in
    λ i. record { request = f (Args q c 0) i; reply = nat_eq (f (Args q c 1) i) (index_of (Entry q c 0)); code = f (Args q c 2) i }

-- arguments that are stored, at this end and at another
abbrev pub with_sheet : Argument → ℕ → ℕ → ℕ → Sheet → Sheet
with_sheet Request q c v s = record s { request = v }
with_sheet Reply q c v s = record s { reply = nat_eq v (index_of (Entry q c 0)) }
with_sheet Code q c v s = record s { code = v }

pub sheet_here : (w : Words) (a q c : ℕ) (x : Argument) (v : ℕ) → area_at (write w a (Args q c (argument_field x)) v a) q c ≡ record (area_at (w a) q c) { sheet = with_sheet x q c v (sheet_at (w a) q c) }
sheet_here w a q c Request v = λ i. record (area_at (w a) q c) { sheet = record (sheet_at (w a) q c) { request = argument_written w a q c 0 v i } }
sheet_here w a q c Reply v = λ i. record (area_at (w a) q c) { sheet = record (sheet_at (w a) q c) { reply = nat_eq (argument_written w a q c 1 v i) (index_of (Entry q c 0)) } }
sheet_here w a q c Code v = λ i. record (area_at (w a) q c) { sheet = record (sheet_at (w a) q c) { code = argument_written w a q c 2 v i } }

other_argument : (w : Words) (a k d g v q c h : ℕ) → Other k d q c → write w a (Args k d g) v a (Args q c h) ≡ w a (Args q c h)
other_argument w a k d g v q c h o = rw (other_end (eqb g h) k d q c o) refl

pub sheet_other : (w : Words) (a k d g v q c : ℕ) → Other k d q c → area_at (write w a (Args k d g) v a) q c ≡ area_at (w a) q c
sheet_other w a k d g v q c o = λ i. record (area_at (w a) q c) { sheet = record { request = other_argument w a k d g v q c 0 o i; reply = nat_eq (other_argument w a k d g v q c 1 o i) (index_of (Entry q c 0)); code = other_argument w a k d g v q c 2 o i } }

-- the same of whole areas: a store in a direction's words leaves the flags
pub area_here : (w : Words) (a q c : ℕ) (x : Place → ℕ) (d : Data) → data_at x q c ≡ d → x (Flag q) ≡ w a (Flag q) → sheet_at x q c ≡ sheet_at (w a) q c → area_at x q c ≡ ringed (area_at (w a) q c) d
area_here w a q c x d e f g = λ i. record { ring = e i; flags = kinds_in (f i) c; sheet = g i }

pub area_same : (x y : Place → ℕ) (q c : ℕ) → data_at x q c ≡ data_at y q c → x (Flag q) ≡ y (Flag q) → sheet_at x q c ≡ sheet_at y q c → area_at x q c ≡ area_at y q c
area_same x y q c e f g = λ i. record { ring = e i; flags = kinds_in (f i) c; sheet = g i }

pub area_far : (w : Words) (k : OpKind) (a : ℕ) (pl : Place) (p q c : ℕ) → (p ≡ a → ⊥) → area_at (does k a pl w p) q c ≡ area_at (w p) q c
area_far w k a pl p q c n = area_same (does k a pl w p) (w p) q c (data_far w k a pl p q c n) (far k a pl w p (Flag q) (λ d. n (sym d))) (sheet_far w k a pl p q c n)

-- a flag is set in the word that a partner keeps for a
abbrev pub flag_set : Words → ℕ → ℕ → ℕ → Kind → Words
flag_set w a q c k = write w q (Flag a) (bit_or (w q (Flag a)) (flag c k))

pub flag_here : (w : Words) (a q c : ℕ) (k : Kind) → area_at (flag_set w a q c k q) a c ≡ flagged (area_at (w q) a c) k
flag_here w a q c k =
    let e : flag_set w a q c k q (Flag a) ≡ bit_or (w q (Flag a)) (flag c k) = rw (self a, self q) refl in
    let f : kinds_in (flag_set w a q c k q (Flag a)) c ≡ also k (kinds_in (w q (Flag a)) c) = ap (λ (v : ℕ). kinds_in v c) e ∙ kinds_in-set (w q (Flag a)) c k in
    λ i. record { ring = data_at (w q) a c; flags = f i; sheet = sheet_at (w q) a c }

pub flag_channel : (w : Words) (a q c : ℕ) (k : Kind) (d : ℕ) → (d ≡ c → ⊥) → area_at (flag_set w a q c k q) a d ≡ area_at (w q) a d
flag_channel w a q c k d n =
    let e : flag_set w a q c k q (Flag a) ≡ bit_or (w q (Flag a)) (flag c k) = rw (self a, self q) refl in
    let f : kinds_in (flag_set w a q c k q (Flag a)) d ≡ kinds_in (w q (Flag a)) d = ap (λ (v : ℕ). kinds_in v d) e ∙ kinds_in-set_elsewhere (w q (Flag a)) c k d n in
    λ i. record { ring = data_at (w q) a d; flags = f i; sheet = sheet_at (w q) a d }

pub flag_owner : (w : Words) (a q c : ℕ) (k : Kind) (p j d : ℕ) → (q ≡ p → ⊥) → area_at (flag_set w a q c k p) j d ≡ area_at (w p) j d
flag_owner w a q c k p j d n =
    let by : (b : Bool) → cond (b && eqb q p) (bit_or (w q (Flag a)) (flag c k)) (w p (Flag j)) ≡ w p (Flag j) = λ b. rw (ne_eqb q p n, and_no b) refl in
    let f : kinds_in (flag_set w a q c k p (Flag j)) d ≡ kinds_in (w p (Flag j)) d = ap (λ (v : ℕ). kinds_in v d) (by (eqb a j)) in
    λ i. record { ring = data_at (w p) j d; flags = f i; sheet = sheet_at (w p) j d }
  where
    and_no : (b : Bool) → (b && false) ≡ false
    and_no true = refl
    and_no false = refl

pub flag_partner : (w : Words) (a q c : ℕ) (k : Kind) (p j d : ℕ) → (a ≡ j → ⊥) → area_at (flag_set w a q c k p) j d ≡ area_at (w p) j d
flag_partner w a q c k p j d n =
    let e : flag_set w a q c k p (Flag j) ≡ w p (Flag j) = rw (ne_eqb a j n) refl in
    let f : kinds_in (flag_set w a q c k p (Flag j)) d ≡ kinds_in (w p (Flag j)) d = ap (λ (v : ℕ). kinds_in v d) e in
    λ i. record { ring = data_at (w p) j d; flags = f i; sheet = sheet_at (w p) j d }

-- the own word of flags for a partner is taken
pub no_flags : (c : ℕ) → kinds_in 0 c ≡ no_kinds
unfolding kinds_in
no_flags c = let z : (n : ℕ) → bit_at 0 n ≡ 0 = bit_at-zero in rw (z (8 * c), z (8 * c + 1), z (8 * c + 2), z (8 * c + 3), z (8 * c + 4), z (8 * c + 5)) refl

pub taken_here : (w : Words) (a q c : ℕ) → area_at (write w a (Flag q) 0 a) q c ≡ unflagged (area_at (w a) q c)
taken_here w a q c =
    let e : write w a (Flag q) 0 a (Flag q) ≡ 0 = rw (self q, self a) refl in
    let f : kinds_in (write w a (Flag q) 0 a (Flag q)) c ≡ no_kinds = ap (λ (v : ℕ). kinds_in v c) e ∙ no_flags c in
    λ i. record { ring = data_at (w a) q c; flags = f i; sheet = sheet_at (w a) q c }

pub taken_else : (w : Words) (a k q c : ℕ) → (k ≡ q → ⊥) → area_at (write w a (Flag k) 0 a) q c ≡ area_at (w a) q c
taken_else w a k q c n =
    let e : write w a (Flag k) 0 a (Flag q) ≡ w a (Flag q) = rw (ne_eqb k q n) refl in
    let f : kinds_in (write w a (Flag k) 0 a (Flag q)) c ≡ kinds_in (w a (Flag q)) c = ap (λ (v : ℕ). kinds_in v c) e in
    λ i. record { ring = data_at (w a) q c; flags = f i; sheet = sheet_at (w a) q c }
