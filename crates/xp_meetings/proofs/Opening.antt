-- The words of the opening by place: counters and flags are 0, and an engagement bit stands for each partner that has a link.
use Rattle.std.proofs.Common.{◌≡◌, ℕ, zero, suc, ◌+◌, ◌*◌, ◌^◌, ◌<◌, ◌≤◌, Bool, true, false, ◌&&◌, ◌||◌, cond, eqb, bit_or, List, [], ◌∷◌, ◌++◌, length, get_or, replicate, refl, ap, sym, ◌∙◌, subst, arith, Some, ◌⊎◌, inl, inr}
use Rattle.xp_base.specs.declared.layout.TheConstants.{PARTS, PART_WORDS, VERSION_AT, STAMP, ENGAGED, SECOND}
use Rattle.std.specs.List.{slice_get}
use Rattle.std.specs.Int.{bit_at}
use Rattle.std.proofs.lemmas.Bool.{cases_eq, eq-eqb, ne_eqb}
use Rattle.std.proofs.lemmas.List.{get_or-replicate, length-replicate}
use Rattle.std.proofs.lemmas.Nat.Bits.{bit_at_or, bit_at-pow_same, bit_at-pow_other, bit_at-lt, bit_at-zero}
use Rattle.xp_base.specs.Memory.{Memory, put_at}
use Rattle.xp_base.specs.Rows.{blank}
use Rattle.xp_base.specs.Places.{Place, Open, Record, Flag, Counter, Args, Entry, IsWithin, index_of}
use Rattle.xp_script.specs.declared.part.Link.{Link}
use Rattle.xp_script.specs.declared.scenario.Scenario.{Scenario}
use Rattle.xp_script.specs.Parts.{links_of, link_in}
use Rattle.xp_script.specs.Lawful.{IsLawful}
use Rattle.xp_script.specs.Settings.{minor_of}
use Rattle.xp_script.specs.Opening.{version_word, page_words, partner_mask, booted_words, link_words, all_link_words, put_words, open_part, opened_from, opening}
use Rattle.xp_protocol.specs.State.{Up, opening_life, opening_stamp}
use Rattle.xp_protocol.specs.declared.rule.RecordField.{RecordField}
use Rattle.xp_protocol.specs.declared.rule.RecordField.TheVariants.{ArgsPlace, CountersPlace, FlagPlace, ChannelCount, Spare}
use Rattle.xp_protocol.specs.Peering.{field_number, field_word}
use Rattle.xp_protocol.proofs.Undo.{index_low}
use Rattle.xp_meetings.proofs.Words.{Words, Agrees, agrees_put, same, write, self}
use Rattle.xp_meetings.proofs.Links.{HasLink, found, mirror, mirrored}

abbrev Puts : Type 0
Puts = List (Place × ℕ)

abbrev pub write_words : Words → ℕ → Puts → Words
write_words w p [] = w
write_words w p ((pl, v) ∷ more) = write_words (write w p pl v) p more

abbrev AreWithin : Puts → Type 0
AreWithin [] = Unit {0}
AreWithin ((pl, v) ∷ more) = IsWithin pl × AreWithin more

within_append : (xs ys : Puts) → AreWithin xs → AreWithin ys → AreWithin (xs ++ ys)
within_append [] ys h k = k
within_append ((pl, v) ∷ more) ys h k = (h.0, within_append more ys h.1 k)

agrees_words : (n : ℕ) (m : Memory) (w : Words) (p : ℕ) (xs : Puts) → Agrees n m w → p < n → AreWithin xs → Agrees n (put_words m p xs) (write_words w p xs)
agrees_words n m w p [] a l h = a
agrees_words n m w p ((pl, v) ∷ more) a l h = agrees_words n (put_at m p (index_of pl) v) (write w p pl v) p more (agrees_put n m w p pl v a l h.0) l h.1

-- places that are other than one
abbrev Misses : Place → Puts → Type 0
Misses x [] = Unit {0}
Misses x ((pl, v) ∷ more) = (same pl x ≡ false) × Misses x more

misses_append : (x : Place) (xs ys : Puts) → Misses x xs → Misses x ys → Misses x (xs ++ ys)
misses_append x [] ys h k = k
misses_append x ((pl, v) ∷ more) ys h k = (h.0, misses_append x more ys h.1 k)

missed_one : (w : Words) (p : ℕ) (pl : Place) (v q : ℕ) (x : Place) → same pl x ≡ false → write w p pl v q x ≡ w q x
missed_one w p pl v q x e = rw e refl

missed : (w : Words) (p : ℕ) (xs : Puts) (q : ℕ) (x : Place) → Misses x xs → write_words w p xs q x ≡ w q x
missed w p [] q x h = refl
missed w p ((pl, v) ∷ more) q x h = missed (write w p pl v) p more q x h.1 ∙ missed_one w p pl v q x h.0

far_one : (b : Bool) (p q v y : ℕ) → (p ≡ q → ⊥) → cond (b && eqb p q) v y ≡ y
far_one true p q v y d = rw (ne_eqb p q d) refl
far_one false p q v y d = refl

far_words : (w : Words) (p : ℕ) (xs : Puts) (q : ℕ) (x : Place) → (p ≡ q → ⊥) → write_words w p xs q x ≡ w q x
far_words w p [] q x d = refl
far_words w p ((pl, v) ∷ more) q x d = far_words (write w p pl v) p more q x d ∙ far_one (same pl x) p q v (w q x) d

-- a partition's words
abbrev pub open_words : Scenario → ℕ → Words → Words
open_words s p w = write_words (write_words (write_words w p (page_words s.count (minor_of p s.minors) p)) p (booted_words (links_of s p))) p (all_link_words (links_of s p))

unfoldable pub opened_words : Scenario → ℕ → ℕ → Words → Words
opened_words s p zero w = w
opened_words s p (suc n) w = opened_words s (p + 1) n (open_words s p w)

page_within : (n minor p : ℕ) → AreWithin (page_words n minor p)
page_within n minor p = (omega arith, (omega arith, (omega arith, (omega arith, (omega arith, (omega arith, tt))))))

booted_within : (ls : List Link) → AreWithin (booted_words ls)
booted_within [] = tt
booted_within (l ∷ ls) = (omega arith, (omega arith, (omega arith, (omega arith, tt))))

link_within : (l : Link) → l.partner < PARTS → l.channel < 4 → AreWithin (link_words l)
link_within l h k = ((h, omega arith), ((h, omega arith), ((h, omega arith), ((h, omega arith), ((h, omega arith), ((h, omega arith), ((h, omega arith), ((h, k, omega arith), ((h, k, omega arith), tt)))))))))

links_within : (ls : List Link) → ((i : ℕ) (l : Link) → slice_get ls i ≡ Some l → (l.partner < PARTS) × (l.channel < 4)) → AreWithin (all_link_words ls)
links_within [] h = tt
links_within (l ∷ ls) h = within_append (link_words l) (all_link_words ls) (link_within l (h 0 l refl).0 (h 0 l refl).1) (links_within ls (λ i m e. h (suc i) m e))

agrees_part : (s : Scenario) → IsLawful s → (p : ℕ) (m : Memory) (w : Words) → p < s.count → Agrees s.count m w → Agrees s.count (open_part s p m) (open_words s p w)
agrees_part s law p m w l a =
    let ls = links_of s p in
    let one = agrees_words s.count m w p (page_words s.count (minor_of p s.minors) p) a l (page_within s.count (minor_of p s.minors) p) in
    let two = agrees_words s.count (put_words m p (page_words s.count (minor_of p s.minors) p)) (write_words w p (page_words s.count (minor_of p s.minors) p)) p (booted_words ls) one l (booted_within ls) in
    agrees_words s.count (put_words (put_words m p (page_words s.count (minor_of p s.minors) p)) p (booted_words ls)) (write_words (write_words w p (page_words s.count (minor_of p s.minors) p)) p (booted_words ls)) p (all_link_words ls) two l (links_within ls (λ i k e. let f = found s p i k e in (omega (arith, f.1, law.numbers.count.high), f.2)))

agrees_from : (s : Scenario) → IsLawful s → (p n : ℕ) (m : Memory) (w : Words) → p + n ≤ s.count → Agrees s.count m w → Agrees s.count (opened_from s p n m) (opened_words s p n w)
unfolding opened_from opened_words
agrees_from s law p zero m w l a = a
agrees_from s law p (suc n) m w l a = agrees_from s law (p + 1) n (open_part s p m) (open_words s p w) (omega (arith, l)) (agrees_part s law p m w (omega (arith, l)) a)

blank_row : (n p : ℕ) → p < n → get_or (blank PART_WORDS n) p [] ≡ replicate PART_WORDS 0
unfolding blank
blank_row n p l = get_or-replicate n p (replicate PART_WORDS 0) [] l

agrees_blank : (n : ℕ) → Agrees n (blank PART_WORDS n) (λ p pl. 0)
unfolding blank
agrees_blank n = record {
  shape = record { count = length-replicate {A = List ℕ} n (replicate PART_WORDS 0); rows = λ p l. ap length (blank_row n p l) ∙ length-replicate {A = ℕ} PART_WORDS 0 };
  words = λ p pl l h. ap (λ (r : List ℕ). get_or r (index_of pl) 0) (blank_row n p l) ∙ get_or-replicate PART_WORDS (index_of pl) 0 0 (index_low pl h);
}

abbrev pub opening_words : Scenario → Words
opening_words s = opened_words s 0 s.count (λ p pl. 0)

pub agrees_opening : (s : Scenario) → IsLawful s → Agrees s.count (opening s) (opening_words s)
agrees_opening s law = agrees_from s law 0 s.count (blank PART_WORDS s.count) (λ p pl. 0) (omega arith) (agrees_blank s.count)

-- a place that no list of words names
record Unnamed (x : Place) : Type 0 where
  page : (n minor p : ℕ) → Misses x (page_words n minor p)
  booted : (l : Link) (ls : List Link) → Misses x (booted_words (l ∷ ls))
  link : (l : Link) → Misses x (link_words l)

links_miss : (x : Place) → ((l : Link) → Misses x (link_words l)) → (ls : List Link) → Misses x (all_link_words ls)
links_miss x h [] = tt
links_miss x h (l ∷ ls) = misses_append x (link_words l) (all_link_words ls) (h l) (links_miss x h ls)

booted_miss : (x : Place) → Unnamed x → (ls : List Link) → Misses x (booted_words ls)
booted_miss x h [] = tt
booted_miss x h (l ∷ ls) = h.booted l ls

unnamed_part : (s : Scenario) (p : ℕ) (w : Words) (o : ℕ) (x : Place) → Unnamed x → open_words s p w o x ≡ w o x
unnamed_part s p w o x h =
    let ls = links_of s p in
    missed (write_words (write_words w p (page_words s.count (minor_of p s.minors) p)) p (booted_words ls)) p (all_link_words ls) o x (links_miss x h.link ls)
    ∙ missed (write_words w p (page_words s.count (minor_of p s.minors) p)) p (booted_words ls) o x (booted_miss x h ls)
    ∙ missed w p (page_words s.count (minor_of p s.minors) p) o x (h.page s.count (minor_of p s.minors) p)

unnamed_from : (s : Scenario) (p n : ℕ) (w : Words) (o : ℕ) (x : Place) → Unnamed x → opened_words s p n w o x ≡ w o x
unfolding opened_words
unnamed_from s p zero w o x h = refl
unnamed_from s p (suc n) w o x h = unnamed_from s (p + 1) n (open_words s p w) o x h ∙ unnamed_part s p w o x h

-- counters and flags are 0
pub counter_zero : (s : Scenario) (o q c f : ℕ) → opening_words s o (Counter q c f) ≡ 0
counter_zero s o q c f = unnamed_from s 0 s.count (λ p pl. 0) o (Counter q c f) (record {
  page = λ n minor p. (refl, (refl, (refl, (refl, (refl, (refl, tt))))));
  booted = λ l ls. (refl, (refl, (refl, (refl, tt))));
  link = λ l. (refl, (refl, (refl, (refl, (refl, (refl, (refl, (refl, (refl, tt)))))))));
})

pub flag_zero : (s : Scenario) (o q : ℕ) → opening_words s o (Flag q) ≡ 0
flag_zero s o q = unnamed_from s 0 s.count (λ p pl. 0) o (Flag q) (record {
  page = λ n minor p. (refl, (refl, (refl, (refl, (refl, (refl, tt))))));
  booted = λ l ls. (refl, (refl, (refl, (refl, tt))));
  link = λ l. (refl, (refl, (refl, (refl, (refl, (refl, (refl, (refl, (refl, tt)))))))));
})

-- engagement bits
links_miss_open : (ls : List Link) (x : ℕ) → Misses (Open x) (all_link_words ls)
links_miss_open ls x = links_miss (Open x) (λ l. (refl, (refl, (refl, (refl, (refl, (refl, (refl, (refl, (refl, tt)))))))))) ls

part_far : (s : Scenario) (p : ℕ) (w : Words) (q : ℕ) (x : Place) → (p ≡ q → ⊥) → open_words s p w q x ≡ w q x
part_far s p w q x d =
    let ls = links_of s p in
    far_words (write_words (write_words w p (page_words s.count (minor_of p s.minors) p)) p (booted_words ls)) p (all_link_words ls) q x d
    ∙ far_words (write_words w p (page_words s.count (minor_of p s.minors) p)) p (booted_words ls) q x d
    ∙ far_words w p (page_words s.count (minor_of p s.minors) p) q x d

later_far : (s : Scenario) (p n : ℕ) (w : Words) (q : ℕ) (x : Place) → q < p → opened_words s p n w q x ≡ w q x
unfolding opened_words
later_far s p zero w q x l = refl
later_far s p (suc n) w q x l = later_far s (p + 1) n (open_words s p w) q x (omega (arith, l)) ∙ part_far s p w q x (λ e. absurd (omega (arith, l, e)))

-- a word of q is put by the opening of q alone
own_from : (s : Scenario) (p n : ℕ) (w : Words) (q : ℕ) (x : Place) (v : ℕ) → ((w : Words) → w q x ≡ 0 → open_words s q w q x ≡ v) → w q x ≡ 0 → p ≤ q → q < p + n → opened_words s p n w q x ≡ v
unfolding opened_words
own_from s p zero w q x v own e h k = absurd (omega (arith, h, k))
own_from s p (suc n) w q x v own e h k = elim (cases_eq p q) [
  | inl d ↦ later_far s (p + 1) n (open_words s p w) q x (omega (arith, d)) ∙ subst (λ (y : ℕ). open_words s y w q x ≡ v) (sym d) (own w e)
  | inr d ↦ own_from s (p + 1) n (open_words s p w) q x v own (part_far s p w q x (λ f. d f) ∙ e) (omega (arith, h, d)) (omega (arith, k))
]

-- whether there is a link to a partner
abbrev pub is_linked : List Link → ℕ → Bool
is_linked [] p = false
is_linked (l ∷ ls) p = eqb l.partner p || is_linked ls p

-- engagement bits
engaged_by : (w : Words) (q : ℕ) (ls : List Link) → w q (Open ENGAGED) ≡ 0 → write_words w q (booted_words ls) q (Open ENGAGED) ≡ partner_mask ls
engaged_by w q [] e = e
engaged_by w q (k ∷ ls) e = rw (self q) refl

engaged_own : (s : Scenario) (q : ℕ) (w : Words) → w q (Open ENGAGED) ≡ 0 → open_words s q w q (Open ENGAGED) ≡ partner_mask (links_of s q)
engaged_own s q w e =
    let ls = links_of s q in
    missed (write_words (write_words w q (page_words s.count (minor_of q s.minors) q)) q (booted_words ls)) q (all_link_words ls) q (Open ENGAGED) (links_miss_open ls 12)
    ∙ engaged_by (write_words w q (page_words s.count (minor_of q s.minors) q)) q ls (missed w q (page_words s.count (minor_of q s.minors) q) q (Open ENGAGED) (refl, (refl, (refl, (refl, (refl, (refl, tt)))))) ∙ e)

-- the version word
version_put : (count minor : ℕ) (w : Words) (q : ℕ) → write_words w q (page_words count minor q) q (Open VERSION_AT) ≡ version_word minor
version_put count minor w q = rw (self q) refl

version_own : (s : Scenario) (q : ℕ) (w : Words) → w q (Open VERSION_AT) ≡ 0 → open_words s q w q (Open VERSION_AT) ≡ version_word (minor_of q s.minors)
version_own s q w e =
    let ls = links_of s q in
    let paged = write_words w q (page_words s.count (minor_of q s.minors) q) in
    missed (write_words paged q (booted_words ls)) q (all_link_words ls) q (Open VERSION_AT) (links_miss_open ls VERSION_AT)
    ∙ missed paged q (booted_words ls) q (Open VERSION_AT) (booted_version ls)
    ∙ version_put s.count (minor_of q s.minors) w q where
      booted_version : (ls : List Link) → Misses (Open VERSION_AT) (booted_words ls)
      booted_version [] = tt
      booted_version (l ∷ ls) = (refl, (refl, (refl, (refl, tt))))

pub opening_version : (s : Scenario) (q : ℕ) → q < s.count → opening_words s q (Open VERSION_AT) ≡ version_word (minor_of q s.minors)
opening_version s q l = own_from s 0 s.count (λ o pl. 0) q (Open VERSION_AT) (version_word (minor_of q s.minors)) (version_own s q) refl (omega arith) (omega (arith, l))

-- the stamp
stamp_put : (w : Words) (q : ℕ) (ls : List Link) → w q (Open STAMP) ≡ 0 → write_words w q (booted_words ls) q (Open STAMP) ≡ opening_stamp ls
stamp_put w q [] e = e
stamp_put w q (k ∷ ls) e = rw (self q) refl

stamp_own : (s : Scenario) (q : ℕ) (w : Words) → w q (Open STAMP) ≡ 0 → open_words s q w q (Open STAMP) ≡ opening_stamp (links_of s q)
stamp_own s q w e =
    let ls = links_of s q in
    missed (write_words (write_words w q (page_words s.count (minor_of q s.minors) q)) q (booted_words ls)) q (all_link_words ls) q (Open STAMP) (links_miss_open ls 4)
    ∙ stamp_put (write_words w q (page_words s.count (minor_of q s.minors) q)) q ls (missed w q (page_words s.count (minor_of q s.minors) q) q (Open STAMP) (refl, (refl, (refl, (refl, (refl, (refl, tt)))))) ∙ e)

pub opening_stamped : (s : Scenario) (q : ℕ) → q < s.count → opening_words s q (Open STAMP) ≡ opening_stamp (links_of s q)
opening_stamped s q l = own_from s 0 s.count (λ o pl. 0) q (Open STAMP) (opening_stamp (links_of s q)) (stamp_own s q) refl (omega arith) (omega (arith, l))

pub linked_stamp : (ls : List Link) (p : ℕ) → is_linked ls p ≡ true → opening_stamp ls ≡ 1
linked_stamp [] p e = absurd (cc)
linked_stamp (l ∷ ls) p e = refl

pub linked_life : (ls : List Link) (p : ℕ) → is_linked ls p ≡ true → opening_life ls ≡ Up
linked_life [] p e = absurd (cc)
linked_life (l ∷ ls) p e = refl

mask_bit : (ls : List Link) (p : ℕ) → bit_at (partner_mask ls) p ≡ cond (is_linked ls p) 1 0
mask_bit [] p = bit_at-zero p
mask_bit (l ∷ ls) p = elim (cases_eq l.partner p) [
  | inl d ↦ rw (eq-eqb l.partner p d) (subst (λ (x : ℕ). bit_at (bit_or (2 ^ x) (partner_mask ls)) p ≡ 1) (sym d) (omega (arith, bit_at_or (2 ^ p) (partner_mask ls) p, bit_at-pow_same p, bit_at-lt (partner_mask ls) p)))
  | inr n ↦ rw (ne_eqb l.partner p n) (omega (arith, bit_at_or (2 ^ l.partner) (partner_mask ls) p, bit_at-pow_other l.partner p (λ e. n (sym e)), bit_at-lt (partner_mask ls) p) ∙ mask_bit ls p)
]

pub opening_bit : (s : Scenario) (q p : ℕ) → q < s.count → bit_at (opening_words s q (Open ENGAGED)) p ≡ cond (is_linked (links_of s q) p) 1 0
opening_bit s q p l = ap (λ (v : ℕ). bit_at v p) (own_from s 0 s.count (λ o pl. 0) q (Open ENGAGED) (partner_mask (links_of s q)) (engaged_own s q) refl (omega arith) (omega (arith, l))) ∙ mask_bit (links_of s q) p

-- magics
words_append : (w : Words) (p : ℕ) (xs ys : Puts) → write_words w p (xs ++ ys) ≡ write_words (write_words w p xs) p ys
words_append w p [] ys = refl
words_append w p ((pl, v) ∷ xs) ys = words_append (write w p pl v) p xs ys

own_magic : (w : Words) (o q x v : ℕ) → write w o (Record q 0) v o (Record x 0) ≡ cond (eqb q x) v (w o (Record x 0))
own_magic w o q x v = rw (self o) (by (eqb q x)) where
  by : (b : Bool) → cond (b && true) v (w o (Record x 0)) ≡ cond b v (w o (Record x 0))
  by true = refl
  by false = refl

twice : (a b : Bool) (v x : ℕ) → cond a v (cond b v x) ≡ cond (b || a) v x
twice true true v x = refl
twice true false v x = refl
twice false true v x = refl
twice false false v x = refl

links_magic : (w : Words) (q : ℕ) (ls : List Link) (p : ℕ) → write_words w q (all_link_words ls) q (Record p 0) ≡ cond (is_linked ls p) SECOND (w q (Record p 0))
links_magic w q [] p = refl
links_magic w q (l ∷ ls) p =
    ap (λ (f : Words). f q (Record p 0)) (words_append w q (link_words l) (all_link_words ls))
    ∙ links_magic (write_words w q (link_words l)) q ls p
    ∙ ap (λ (v : ℕ). cond (is_linked ls p) SECOND v) (own_magic w q l.partner p SECOND)
    ∙ twice (is_linked ls p) (eqb l.partner p) SECOND (w q (Record p 0))

booted_magic : (ls : List Link) (p : ℕ) → Misses (Record p 0) (booted_words ls)
booted_magic [] p = tt
booted_magic (l ∷ ls) p = (refl, (refl, (refl, (refl, tt))))

magic_own : (s : Scenario) (q p : ℕ) (w : Words) → w q (Record p 0) ≡ 0 → open_words s q w q (Record p 0) ≡ cond (is_linked (links_of s q) p) SECOND 0
magic_own s q p w e =
    let ls = links_of s q in
    links_magic (write_words (write_words w q (page_words s.count (minor_of q s.minors) q)) q (booted_words ls)) q ls p
    ∙ ap (λ (v : ℕ). cond (is_linked ls p) SECOND v) (missed (write_words w q (page_words s.count (minor_of q s.minors) q)) q (booted_words ls) q (Record p 0) (booted_magic ls p) ∙ missed w q (page_words s.count (minor_of q s.minors) q) q (Record p 0) (refl, (refl, (refl, (refl, (refl, (refl, tt)))))) ∙ e)

pub opening_magic : (s : Scenario) (q p : ℕ) → q < s.count → opening_words s q (Record p 0) ≡ cond (is_linked (links_of s q) p) SECOND 0
opening_magic s q p l = own_from s 0 s.count (λ o pl. 0) q (Record p 0) (cond (is_linked (links_of s q) p) SECOND 0) (magic_own s q p) refl (omega arith) (omega (arith, l))

-- sessions and echoes
own_field : (w : Words) (o q x v g : ℕ) → cond (eqb q x && eqb o o) v (w o (Record x g)) ≡ cond (eqb q x) v (w o (Record x g))
own_field w o q x v g = rw (self o) (by (eqb q x)) where
  by : (b : Bool) → cond (b && true) v (w o (Record x g)) ≡ cond b v (w o (Record x g))
  by true = refl
  by false = refl

links_first : (w : Words) (q : ℕ) (ls : List Link) (p : ℕ) → write_words w q (all_link_words ls) q (Record p 1) ≡ cond (is_linked ls p) 4294967297 (w q (Record p 1))
links_first w q [] p = refl
links_first w q (l ∷ ls) p =
    ap (λ (f : Words). f q (Record p 1)) (words_append w q (link_words l) (all_link_words ls))
    ∙ links_first (write_words w q (link_words l)) q ls p
    ∙ ap (λ (v : ℕ). cond (is_linked ls p) 4294967297 v) (own_field w q l.partner p 4294967297 1)
    ∙ twice (is_linked ls p) (eqb l.partner p) 4294967297 (w q (Record p 1))

links_second : (w : Words) (q : ℕ) (ls : List Link) (p : ℕ) → write_words w q (all_link_words ls) q (Record p 2) ≡ cond (is_linked ls p) 4294967297 (w q (Record p 2))
links_second w q [] p = refl
links_second w q (l ∷ ls) p =
    ap (λ (f : Words). f q (Record p 2)) (words_append w q (link_words l) (all_link_words ls))
    ∙ links_second (write_words w q (link_words l)) q ls p
    ∙ ap (λ (v : ℕ). cond (is_linked ls p) 4294967297 v) (own_field w q l.partner p 4294967297 2)
    ∙ twice (is_linked ls p) (eqb l.partner p) 4294967297 (w q (Record p 2))

booted_field : (ls : List Link) (p g : ℕ) → Misses (Record p g) (booted_words ls)
booted_field [] p g = tt
booted_field (l ∷ ls) p g = (refl, (refl, (refl, (refl, tt))))

before_links : (s : Scenario) (q p g : ℕ) (w : Words) → write_words (write_words w q (page_words s.count (minor_of q s.minors) q)) q (booted_words (links_of s q)) q (Record p g) ≡ w q (Record p g)
before_links s q p g w = missed (write_words w q (page_words s.count (minor_of q s.minors) q)) q (booted_words (links_of s q)) q (Record p g) (booted_field (links_of s q) p g) ∙ missed w q (page_words s.count (minor_of q s.minors) q) q (Record p g) (refl, (refl, (refl, (refl, (refl, (refl, tt))))))

pub opening_first : (s : Scenario) (q p : ℕ) → q < s.count → opening_words s q (Record p 1) ≡ cond (is_linked (links_of s q) p) 4294967297 0
opening_first s q p l = own_from s 0 s.count (λ o pl. 0) q (Record p 1) (cond (is_linked (links_of s q) p) 4294967297 0) (λ w e. links_first (write_words (write_words w q (page_words s.count (minor_of q s.minors) q)) q (booted_words (links_of s q))) q (links_of s q) p ∙ ap (λ (v : ℕ). cond (is_linked (links_of s q) p) 4294967297 v) (before_links s q p 1 w ∙ e)) refl (omega arith) (omega (arith, l))

pub opening_second : (s : Scenario) (q p : ℕ) → q < s.count → opening_words s q (Record p 2) ≡ cond (is_linked (links_of s q) p) 4294967297 0
opening_second s q p l = own_from s 0 s.count (λ o pl. 0) q (Record p 2) (cond (is_linked (links_of s q) p) 4294967297 0) (λ w e. links_second (write_words (write_words w q (page_words s.count (minor_of q s.minors) q)) q (booted_words (links_of s q))) q (links_of s q) p ∙ ap (λ (v : ℕ). cond (is_linked (links_of s q) p) 4294967297 v) (before_links s q p 2 w ∙ e)) refl (omega arith) (omega (arith, l))

-- partners see the same links
linked_at : (ls : List Link) (p : ℕ) → is_linked ls p ≡ true → (i : ℕ) × (l : Link) × (slice_get ls i ≡ Some l) × (l.partner ≡ p)
linked_at [] p e = absurd (cc)
linked_at (l ∷ ls) p e = elim (cases_eq l.partner p) [
  | inl d ↦ (0, l, refl, d)
  | inr n ↦ let f : is_linked ls p ≡ true = rw (ne_eqb l.partner p n) at e in let r = linked_at ls p f in (suc r.0, r.1, r.2, r.3)
]

or_right : (a b : Bool) → b ≡ true → (a || b) ≡ true
or_right true b t = refl
or_right false b t = t

pub linked_by : (ls : List Link) (p i : ℕ) (l : Link) → slice_get ls i ≡ Some l → l.partner ≡ p → is_linked ls p ≡ true
linked_by [] p i l e d = absurd (cc)
linked_by (k ∷ ls) p zero l e d = let same : k ≡ l = cc in rw (eq-eqb k.partner p (ap (λ (x : Link). x.partner) same ∙ d)) refl
linked_by (k ∷ ls) p (suc i) l e d = or_right (eqb k.partner p) (is_linked ls p) (linked_by ls p i l e d)

linked_other : (s : Scenario) → IsLawful s → (p q : ℕ) → is_linked (links_of s p) q ≡ true → is_linked (links_of s q) p ≡ true
linked_other s law p q e =
    let r = linked_at (links_of s p) q e in
    let m = mirrored s p q r.1.channel r.1 law (record { number = r.0; listed = r.2; partner = r.3; channel = refl }) in
    linked_by (links_of s q) p m.number (mirror p r.1) m.listed m.partner

both_true : (a b : Bool) → (a ≡ true → b ≡ true) → (b ≡ true → a ≡ true) → a ≡ b
both_true true b f g = sym (f refl)
both_true false true f g = g refl
both_true false false f g = refl

pub linked_both : (s : Scenario) → IsLawful s → (p q : ℕ) → is_linked (links_of s p) q ≡ is_linked (links_of s q) p
linked_both s law p q = both_true (is_linked (links_of s p) q) (is_linked (links_of s q) p) (linked_other s law p q) (linked_other s law q p)

-- the request and the reply of a channel that opens connected
abbrev Listed : List Link → ℕ → ℕ → Type 0
Listed ls q c = (i : ℕ) × (l : Link) × (slice_get ls i ≡ Some l) × (l.partner ≡ q) × (l.channel ≡ c)

module _ (o q c f : ℕ) (value : Link → ℕ) (at : (w : Words) (l : Link) → write_words w o (link_words l) o (Args q c f) ≡ cond ((eqb l.channel c && eqb l.partner q) && eqb o o) (value l) (w o (Args q c f))) where
  links_argument : (w : Words) (ls : List Link) (v : ℕ) → ((i : ℕ) (l : Link) → slice_get ls i ≡ Some l → l.partner ≡ q → l.channel ≡ c → value l ≡ v) → (w o (Args q c f) ≡ v) ⊎ Listed ls q c → write_words w o (all_link_words ls) o (Args q c f) ≡ v
  links_argument w [] v each (inl e) = e
  links_argument w [] v each (inr k) = let z = k.2 in absurd (cc)
  links_argument w (l ∷ ls) v each h =
      let w' = write_words w o (link_words l) in
      ap (λ (g : Words). g o (Args q c f)) (words_append w o (link_words l) (all_link_words ls)) ∙ links_argument w' ls v (λ i m. each (suc i) m) (by (cases_eq l.channel c) (cases_eq l.partner q))
    where
      later : (l.partner ≡ q → l.channel ≡ c → ⊥) → Listed (l ∷ ls) q c → Listed ls q c
      later n (zero, m, e, d, g) = let same : l ≡ m = cc in absurd (n (ap (λ (x : Link). x.partner) same ∙ d) (ap (λ (x : Link). x.channel) same ∙ g))
      later n (suc i, m, e, d, g) = (i, m, e, d, g)

      old : (l.partner ≡ q → l.channel ≡ c → ⊥) → write_words w o (link_words l) o (Args q c f) ≡ w o (Args q c f) → (w o (Args q c f) ≡ v) ⊎ Listed (l ∷ ls) q c → (write_words w o (link_words l) o (Args q c f) ≡ v) ⊎ Listed ls q c
      old n e (inl k) = inl (e ∙ k)
      old n e (inr k) = inr (later n k)

      by : (l.channel ≡ c) ⊎ (l.channel ≡ c → ⊥) → (l.partner ≡ q) ⊎ (l.partner ≡ q → ⊥) → (write_words w o (link_words l) o (Args q c f) ≡ v) ⊎ Listed ls q c
      by (inl d) (inl e) = inl (at w l ∙ rw (eq-eqb l.channel c d, eq-eqb l.partner q e, self o) (each 0 l refl e d))
      by (inl d) (inr n) = old (λ e g. n e) (at w l ∙ rw (eq-eqb l.channel c d, ne_eqb l.partner q n) refl) h
      by (inr n) e = old (λ e g. n g) (at w l ∙ rw (ne_eqb l.channel c n) refl) h

  opening_argument : (s : Scenario) → o < s.count → (v : ℕ) → ((i : ℕ) (l : Link) → slice_get (links_of s o) i ≡ Some l → l.partner ≡ q → l.channel ≡ c → value l ≡ v) → Listed (links_of s o) q c → opening_words s o (Args q c f) ≡ v
  opening_argument s low v each k = own_from s 0 s.count (λ p pl. 0) o (Args q c f) v (λ w e. links_argument (write_words (write_words w o (page_words s.count (minor_of o s.minors) o)) o (booted_words (links_of s o))) (links_of s o) v each (inr k)) refl (omega arith) (omega (arith, low))

one_link : (s : Scenario) (o i j : ℕ) (l m : Link) → slice_get (links_of s o) i ≡ Some l → slice_get (links_of s o) j ≡ Some m → m.partner ≡ l.partner → m.channel ≡ l.channel → m ≡ l
one_link s o i j l m e f p c =
    let a = (found s o i l e).0.only in
    let b = (found s o j m f).0.only in
    let k : m ∷ [] ≡ l ∷ [] = sym b ∙ (λ n. link_in o (p n) (c n) s.warms) ∙ a in
    cc

pub opening_request : (s : Scenario) (o q c : ℕ) (l : Link) → o < s.count → HasLink s o q c l → opening_words s o (Args q c 0) ≡ l.limit + 65536 * l.entries
opening_request s o q c l low h = opening_argument o q c 0 (λ m. m.limit + 65536 * m.entries) (λ w m. refl) s low (l.limit + 65536 * l.entries)
    (λ i m e d g. ap (λ (k : Link). k.limit + 65536 * k.entries) (one_link s o h.number i l m h.listed e (d ∙ sym h.partner) (g ∙ sym h.channel))) (h.number, l, h.listed, h.partner, h.channel)

pub opening_reply : (s : Scenario) (o q c : ℕ) (l : Link) → o < s.count → HasLink s o q c l → opening_words s o (Args q c 1) ≡ index_of (Entry q c 0)
opening_reply s o q c l low h = opening_argument o q c 1 (λ m. index_of (Entry m.partner m.channel 0)) (λ w m. refl) s low (index_of (Entry q c 0)) (λ i m e d g. (λ n. index_of (Entry (d n) (g n) 0))) (h.number, l, h.listed, h.partner, h.channel)

-- the words that say where the memory for a partner is
module _ (f : ℕ) (value : ℕ → ℕ) (at : (w : Words) (q p : ℕ) (l : Link) → write_words w q (link_words l) q (Record p f) ≡ cond (eqb l.partner p && eqb q q) (value l.partner) (w q (Record p f))) where
  own_place : (q x p y : ℕ) → cond (eqb x p && eqb q q) (value x) y ≡ cond (eqb x p) (value p) y
  own_place q x p y = elim (cases_eq x p) [
    | inl d ↦ rw (eq-eqb x p d, self q) (ap value d)
    | inr n ↦ rw (ne_eqb x p n) refl
  ]

  links_place : (w : Words) (q : ℕ) (ls : List Link) (p : ℕ) → write_words w q (all_link_words ls) q (Record p f) ≡ cond (is_linked ls p) (value p) (w q (Record p f))
  links_place w q [] p = refl
  links_place w q (l ∷ ls) p =
      ap (λ (g : Words). g q (Record p f)) (words_append w q (link_words l) (all_link_words ls))
      ∙ links_place (write_words w q (link_words l)) q ls p
      ∙ ap (λ (v : ℕ). cond (is_linked ls p) (value p) v) (at w q p l ∙ own_place q l.partner p (w q (Record p f)))
      ∙ twice (is_linked ls p) (eqb l.partner p) (value p) (w q (Record p f))

  opening_place : (s : Scenario) (q p : ℕ) → q < s.count → is_linked (links_of s q) p ≡ true → opening_words s q (Record p f) ≡ value p
  opening_place s q p l t = own_from s 0 s.count (λ o pl. 0) q (Record p f) (cond (is_linked (links_of s q) p) (value p) 0) (λ w e. links_place (write_words (write_words w q (page_words s.count (minor_of q s.minors) q)) q (booted_words (links_of s q))) q (links_of s q) p ∙ ap (λ (v : ℕ). cond (is_linked (links_of s q) p) (value p) v) (before_links s q p f w ∙ e)) refl (omega arith) (omega (arith, l))
      ∙ ap (λ (b : Bool). cond b (value p) 0) t

links_spare : (w : Words) (q : ℕ) (ls : List Link) (p : ℕ) → write_words w q (all_link_words ls) q (Record p 7) ≡ w q (Record p 7)
links_spare w q [] p = refl
links_spare w q (l ∷ ls) p = ap (λ (g : Words). g q (Record p 7)) (words_append w q (link_words l) (all_link_words ls)) ∙ links_spare (write_words w q (link_words l)) q ls p

pub opening_right : (s : Scenario) (q p : ℕ) → q < s.count → is_linked (links_of s q) p ≡ true → (x : RecordField) → opening_words s q (Record p (field_number x)) ≡ field_word p x
opening_right s q p l t ArgsPlace = opening_place 3 (λ k. index_of (Args k 0 0)) (λ w o k m. refl) s q p l t
opening_right s q p l t CountersPlace = opening_place 4 (λ k. index_of (Counter k 0 0)) (λ w o k m. refl) s q p l t
opening_right s q p l t FlagPlace = opening_place 5 (λ k. index_of (Flag k)) (λ w o k m. refl) s q p l t
opening_right s q p l t ChannelCount = opening_place 6 (λ k. 4) (λ w o k m. refl) s q p l t
opening_right s q p l t Spare = own_from s 0 s.count (λ o pl. 0) q (Record p 7) 0 (λ w e. links_spare (write_words (write_words w q (page_words s.count (minor_of q s.minors) q)) q (booted_words (links_of s q))) q (links_of s q) p ∙ before_links s q p 7 w ∙ e) refl (omega arith) (omega (arith, l))
