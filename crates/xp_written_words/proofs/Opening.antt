-- The words of the opening fit their places, and what each partition knows at the opening.
use Rattle.std.proofs.Common.{◌≡◌, ℕ, zero, suc, ◌+◌, ◌-◌, ◌^◌, ◌<◌, ◌≤◌, Bool, true, false, ◌&&◌, ◌||◌, cond, eqb, List, [], ◌∷◌, ◌++◌, replicate, refl, ap, sym, ◌∙◌, subst, arith, Some, inl, inr, ◌⊎◌}
use Rattle.std.specs.Prelude.{nat_lt}
use Rattle.std.specs.List.{slice_get, AllByRecursion}
use Rattle.std.proofs.lemmas.Bool.{cond_both, and_parts, eqb-true, cases_eq, cases_lt, ne_eqb}
use Rattle.std.proofs.lemmas.Bool.Decides.{nat_tests}
use Rattle.std.proofs.lemmas.List.{get_or_past, get_or-replicate, length-replicate}
use Rattle.std.proofs.lemmas.Nat.{or_comm, pow_below}
use Rattle.xp_base.specs.declared.body.TheConstants.{LINE_BYTES}
use Rattle.xp_base.specs.declared.layout.TheConstants.{VERSION_AT, STAMP, SIGNATURE, OPEN_WORDS}
use Rattle.xp_base.specs.Places.{Place, Open, Record, Flag, Args, Counter, Entry, Pool, Beyond, IsWithin, index_of}
use Rattle.xp_page.specs.Grammar.{allows}
use Rattle.xp_page.specs.declared.grammar.Allowed.TheVariants.{Between}
use Rattle.xp_dump_table.specs.declared.layout.Layout.TheVariants.{Newer}
use Rattle.xp_dump_table.specs.declared.layout.Field.TheVariants as fields
use Rattle.xp_dump_table.specs.Layouts.{place_of}
use Rattle.xp_dump_table.specs.Table.{row_of}
use Rattle.xp_script.specs.declared.part.Link.{Link}
use Rattle.xp_script.specs.declared.setting.Minor.{Minor}
use Rattle.xp_script.specs.declared.setting.Warm.{Warm}
use Rattle.xp_script.specs.declared.scenario.Scenario.{Scenario}
use Rattle.xp_script.specs.Lawful.{IsLawful, IsLawfulMinor, IsLawfulWarm}
use Rattle.xp_script.specs.Opening.{version_word, page_words, partner_mask, booted_words, link_words, all_link_words}
use Rattle.xp_script.specs.Parts.{part_of, links_of, link_in}
use Rattle.xp_script.specs.Settings.{minor_of, joins}
use Rattle.xp_script.specs.Sizes.{longest_limit}
use Rattle.xp_protocol.specs.State.{Peer, End, Old, cold_peer, idle_end, size_of, warm_end, first_met, each, warm_peer, base_peer, first_peers, opened_new, opened_peers, opened_state, opening_life, opening_stamp, peer_at}
use Rattle.xp_protocol.proofs.LawfulParts.{AreLawfulLines}
use Rattle.xp_protocol.proofs.Opened.{start_all}
use Rattle.xp_protocol.proofs.Slots.{at_each, at_peer, at_slot}
use Rattle.xp_meetings.proofs.Links.{found, line}
use Rattle.xp_meetings.proofs.Opening.{write_words, open_words, opened_words, opening_words, opening_stamped}
use Rattle.xp_meetings.proofs.Words.{Words, same, same_told, self, write}
use Rattle.xp_written_words.proofs.Fits.{Fits, IsBehind, part_at, IsOthers, others_or, others_zero, own_place, request_allowed, request_small, zero_fits}
use Rattle.xp_written_words.proofs.Ends.{Backed, facts, IsSizeTo, idle_backed, warm_backed}
use Rattle.xp_written_words.proofs.Peers.{IsBacked, IsShut, cold_backed}
use Rattle.xp_written_words.proofs.Parts.{Knows, booting}
use Rattle.xp_written_words.proofs.Rules.{mask_fits, engaged_fits, activation_fits, deactivation_fits}

abbrev Puts : Type 0
Puts = List (Place × ℕ)

-- ---- what one partition puts is no other's
far_one : (b : Bool) (p q v y : ℕ) → (p ≡ q → ⊥) → cond (b && eqb p q) v y ≡ y
far_one true p q v y d = rw (ne_eqb p q d) refl
far_one false p q v y d = refl

far_words : (w : Words) (p : ℕ) (xs : Puts) (q : ℕ) (x : Place) → (p ≡ q → ⊥) → write_words w p xs q x ≡ w q x
far_words w p [] q x d = refl
far_words w p ((pl, v) ∷ more) q x d = far_words (write w p pl v) p more q x d ∙ far_one (same pl x) p q v (w q x) d

part_far : (s : Scenario) (p : ℕ) (w : Words) (q : ℕ) (x : Place) → (p ≡ q → ⊥) → open_words s p w q x ≡ w q x
part_far s p w q x d =
    let paged = write_words w p (page_words s.count (minor_of p s.minors) p) in
    let booted = write_words paged p (booted_words (links_of s p)) in
    far_words booted p (all_link_words (links_of s p)) q x d
    ∙ far_words paged p (booted_words (links_of s p)) q x d
    ∙ far_words w p (page_words s.count (minor_of p s.minors) p) q x d

later_far : (s : Scenario) (p n : ℕ) (w : Words) (q : ℕ) (x : Place) → q < p → opened_words s p n w q x ≡ w q x
unfolding opened_words
later_far s p zero w q x l = refl
later_far s p (suc n) w q x l = later_far s (p + 1) n (open_words s p w) q x (omega (arith, l)) ∙ part_far s p w q x (λ e. absurd (omega (arith, l, e)))

-- the words that partition q puts, over zeros
record Own (s : Scenario) (q : ℕ) (new : Words) : Type 0 where
  before : Words
  zeros : (x : Place) → before q x ≡ 0
  is : (x : Place) → new q x ≡ open_words s q before q x

own_from : (s : Scenario) (p n : ℕ) (w : Words) (q : ℕ) → ((x : Place) → w q x ≡ 0) → p ≤ q → q < p + n → Own s q (opened_words s p n w)
unfolding opened_words
own_from s p zero w q z h k = absurd (omega (arith, h, k))
own_from s p (suc n) w q z h k = elim (cases_eq p q) [
  | inl d ↦ record { before = w; zeros = z; is = λ x. later_far s (p + 1) n (open_words s p w) q x (omega (arith, d)) ∙ ap (λ (y : ℕ). open_words s y w q x) d }
  | inr d ↦ own_from s (p + 1) n (open_words s p w) q (λ x. part_far s p w q x d ∙ z x) (omega (arith, h, d)) (omega (arith, k))
]

-- ---- words that are put fit
abbrev AllOk : ℕ → ℕ → ℕ → Puts → Type 0
AllOk n minor p [] = Unit {0}
AllOk n minor p ((pl, v) ∷ more) = Fits n minor p pl v × AllOk n minor p more

ok_append : (n minor p : ℕ) (xs ys : Puts) → AllOk n minor p xs → AllOk n minor p ys → AllOk n minor p (xs ++ ys)
ok_append n minor p [] ys h k = k
ok_append n minor p ((pl, v) ∷ more) ys h k = (h.0, ok_append n minor p more ys h.1 k)

writes_fit : (n minor : ℕ) (w : Words) (p : ℕ) (xs : Puts) → AllOk n minor p xs → (x : Place) → Fits n minor p x (w p x) → Fits n minor p x (write_words w p xs p x)
writes_fit n minor w p [] ok x h = h
writes_fit n minor w p ((pl, v) ∷ more) ok x h =
    writes_fit n minor (write w p pl v) p more ok.1 x
    (cond_both (same pl x && eqb p p) v (w p x) (λ (t : ℕ). Fits n minor p x t) (λ e. subst (λ (y : Place). Fits n minor p y v) (same_told pl x (and_parts (same pl x) (eqb p p) e).0) ok.0) (λ e. h))

version_allowed : (minor : ℕ) → 1 ≤ minor → minor ≤ 2 → allows (Between 48 63) (48 + minor) ≡ true
version_allowed minor l h = grind (arith, nat_tests)

minor_range : (n p : ℕ) (ms : List Minor) → AllByRecursion (IsLawfulMinor n) ms → (1 ≤ minor_of p ms) × (minor_of p ms ≤ 2)
minor_range n p [] h = (omega arith, omega arith)
minor_range n p (m ∷ ms) h = by (eqb m.part p) (minor_range n p ms h.1) where
  by : (b : Bool) → (1 ≤ minor_of p ms) × (minor_of p ms ≤ 2) → (1 ≤ cond b m.version (minor_of p ms)) × (cond b m.version (minor_of p ms) ≤ 2)
  by true k = (h.0.low, h.0.high)
  by false k = k

all_small : (n : ℕ) → n ≤ 64 → 2 ^ n - 1 < 2 ^ 64
all_small n l = by (cases_eq n 64) where
  by : (n ≡ 64) ⊎ (n ≡ 64 → ⊥) → 2 ^ n - 1 < 2 ^ 64
  by (inl e) = subst (λ (k : ℕ). 2 ^ k - 1 < 2 ^ 64) (sym e) (omega arith)
  by (inr d) = let less : 2 ^ n < 2 ^ 64 = pow_below n 64 (omega (arith, l, d)) in omega (arith, less)

module _ (s : Scenario) (law : IsLawful s) (p : ℕ) (lp : p < s.count) where
  abbrev minor : ℕ
  minor = minor_of p s.minors

  abbrev n : ℕ
  n = s.count

  abbrev At : Place → ℕ → Type 0
  At pl v = Fits n minor p pl v

  high : s.count ≤ 64
  high = law.numbers.count.high

  range : (1 ≤ minor) × (minor ≤ 2)
  range = minor_range s.count p s.minors law.settings.minors.each

  -- the page
  signature_fits : At (Open 0) SIGNATURE
  signature_fits = record { small = omega arith; allowed = refl; exact = λ e. absurd (omega (arith, e)) }

  version_fits : At (Open 1) (version_word minor)
  version_fits = record { small = omega (arith, range.1); allowed = version_allowed minor range.0 range.1; exact = λ e. refl }

  part_fits : At (Open 2) p
  part_fits = record { small = omega (arith, lp, high); allowed = self p; exact = λ e. absurd (omega (arith, e)) }

  variables_fit : At (Open 3) 8
  variables_fit = record { small = omega arith; allowed = refl; exact = λ e. absurd (omega (arith, e)) }

  parts_fit : At (Open 5) (2 ^ s.count - 1)
  parts_fit = record { small = all_small s.count high; allowed = self (2 ^ s.count - 1); exact = λ e. absurd (omega (arith, e)) }

  records_fit : At (Open 14) OPEN_WORDS
  records_fit = record { small = omega arith; allowed = refl; exact = λ e. absurd (omega (arith, e)) }

  page_ok : AllOk n minor p (page_words s.count minor p)
  page_ok = (signature_fits, (version_fits, (part_fits, (variables_fit, (parts_fit, (records_fit, tt))))))

  module _ (w : Words) (z : (x : Place) → w p x ≡ 0) where
    abbrev paged : Words
    paged = write_words w p (page_words s.count minor p)

    still_zero : (k : ℕ) → paged p (Open k) ≡ w p (Open k) → At (Open k) 0 → At (Open k) (paged p (Open k))
    still_zero k e h = subst (At (Open k)) (sym (e ∙ z (Open k))) h

    plain : (k : ℕ) → (k ≡ VERSION_AT → ⊥) → allows (row_of (part_at n minor p) (fields.Open k)).allowed 0 ≡ true → At (Open k) 0
    plain k d e = record { small = omega arith; allowed = e; exact = λ f. absurd (d f) }

    page_fits : (k : ℕ) → k < 16 → At (Open k) (paged p (Open k))
    page_fits zero l = rw (self p) signature_fits
    page_fits (suc zero) l = rw (self p) version_fits
    page_fits (suc (suc zero)) l = rw (self p) part_fits
    page_fits (suc (suc (suc zero))) l = rw (self p) variables_fit
    page_fits (suc (suc (suc (suc zero)))) l = still_zero 4 refl (plain 4 (λ e. absurd (omega (arith, e))) refl)
    page_fits (suc (suc (suc (suc (suc zero))))) l = rw (self p) parts_fit
    page_fits (suc (suc (suc (suc (suc (suc zero)))))) l = still_zero 6 refl (plain 6 (λ e. absurd (omega (arith, e))) refl)
    page_fits (suc (suc (suc (suc (suc (suc (suc zero))))))) l = still_zero 7 refl (plain 7 (λ e. absurd (omega (arith, e))) refl)
    page_fits (suc (suc (suc (suc (suc (suc (suc (suc zero)))))))) l = still_zero 8 refl (plain 8 (λ e. absurd (omega (arith, e))) refl)
    page_fits (suc (suc (suc (suc (suc (suc (suc (suc (suc zero))))))))) l = still_zero 9 refl (mask_fits s law p 0 (others_zero n p))
    page_fits (suc (suc (suc (suc (suc (suc (suc (suc (suc (suc zero)))))))))) l = still_zero 10 refl (plain 10 (λ e. absurd (omega (arith, e))) refl)
    page_fits (suc (suc (suc (suc (suc (suc (suc (suc (suc (suc (suc zero))))))))))) l = still_zero 11 refl (activation_fits s law p 0 (others_zero n p))
    page_fits (suc (suc (suc (suc (suc (suc (suc (suc (suc (suc (suc (suc zero)))))))))))) l = still_zero 12 refl (engaged_fits s law p 0 (others_zero n p))
    page_fits (suc (suc (suc (suc (suc (suc (suc (suc (suc (suc (suc (suc (suc zero))))))))))))) l = still_zero 13 refl (deactivation_fits s law p 0 (others_zero n p))
    page_fits (suc (suc (suc (suc (suc (suc (suc (suc (suc (suc (suc (suc (suc (suc zero)))))))))))))) l = rw (self p) records_fit
    page_fits (suc (suc (suc (suc (suc (suc (suc (suc (suc (suc (suc (suc (suc (suc (suc zero))))))))))))))) l = still_zero 15 refl (plain 15 (λ e. absurd (omega (arith, e))) refl)
    page_fits (suc (suc (suc (suc (suc (suc (suc (suc (suc (suc (suc (suc (suc (suc (suc (suc k)))))))))))))))) l = absurd (omega (arith, l))

    behind_fits : (x : Place) → IsBehind x → At x (paged p x)
    behind_fits x b = writes_fit n minor w p (page_words s.count minor p) page_ok x (subst (At x) (sym (z x)) (zero_fits n minor p x b))

    paged_fits : (x : Place) → IsWithin x → At x (paged p x)
    paged_fits (Open k) l = page_fits k l
    paged_fits (Record q f) l = behind_fits (Record q f) tt
    paged_fits (Flag q) l = behind_fits (Flag q) tt
    paged_fits (Args q c f) l = behind_fits (Args q c f) tt
    paged_fits (Counter q c f) l = behind_fits (Counter q c f) tt
    paged_fits (Entry q c f) l = behind_fits (Entry q c f) tt
    paged_fits (Pool b f) l = behind_fits (Pool b f) tt
    paged_fits Beyond l = absurd l

  -- links
  pub record Lawful (l : Link) : Type 0 where
    pub partner : l.partner < s.count
    pub other : l.partner ≡ p → ⊥
    pub channel : l.channel < 4
    pub size : IsSizeTo (longest_limit minor) (size_of l)

  or_cases : (a b c : Bool) → ((a || b) && c) ≡ true → (a ≡ true) ⊎ (b ≡ true)
  or_cases true b true e = inl refl
  or_cases false true true e = inr refl
  or_cases true b false e = absurd (cc)
  or_cases false true false e = absurd (cc)
  or_cases false false c e = absurd (cc)

  warm_limit : (q c : ℕ) (x : Warm) → IsLawfulWarm s.count s.minors x → joins p q c x ≡ true → x.limit ≤ longest_limit minor
  warm_limit q c x h e = by (or_cases (eqb x.first p && eqb x.second q) (eqb x.first q && eqb x.second p) (eqb x.channel c) e) where
    by : ((eqb x.first p && eqb x.second q) ≡ true) ⊎ ((eqb x.first q && eqb x.second p) ≡ true) → x.limit ≤ longest_limit minor
    by (inl t) = subst (λ (o : ℕ). x.limit ≤ longest_limit (minor_of o s.minors)) (eqb-true x.first p (and_parts (eqb x.first p) (eqb x.second q) t).0) h.first_size.short
    by (inr t) = subst (λ (o : ℕ). x.limit ≤ longest_limit (minor_of o s.minors)) (eqb-true x.second p (and_parts (eqb x.first q) (eqb x.second p) t).1) h.second_size.short

  limit_in : (q c : ℕ) (xs : List Warm) (l : Link) → AreLawfulLines s.count s.minors xs → link_in p q c xs ≡ l ∷ [] → l.limit ≤ longest_limit minor
  limit_in q c [] l h e = absurd (cc)
  limit_in q c (x ∷ xs) l h e = by (joins p q c x) refl (λ f. limit_in q c xs l h.1 f) e where
    by : (b : Bool) → joins p q c x ≡ b → (link_in p q c xs ≡ l ∷ [] → l.limit ≤ longest_limit minor) → cond b (record { partner = q; channel = c; entries = x.entries; limit = x.limit } ∷ []) (link_in p q c xs) ≡ l ∷ [] → l.limit ≤ longest_limit minor
    by true t more f = let k : record { partner = q; channel = c; entries = x.entries; limit = x.limit } ≡ l = cc in subst (λ (y : Link). y.limit ≤ longest_limit minor) k (warm_limit q c x h.0 t)
    by false t more f = more f

  lawful_at : (i : ℕ) (l : Link) → slice_get (links_of s p) i ≡ Some l → Lawful l
  lawful_at i l e =
      let y = line s p l.partner l.channel l law (record { number = i; listed = e; partner = refl; channel = refl }) in
      let f = (found s p i l e).0 in
      record { partner = y.second; other = λ d. y.apart (sym d); channel = y.channel; size = (y.size, limit_in l.partner l.channel s.warms l law.settings.warms.each f.only) }

  abbrev AreLawful : List Link → Type 0
  AreLawful ls = (i : ℕ) (l : Link) → slice_get ls i ≡ Some l → Lawful l

  mask_ok : (ls : List Link) → AreLawful ls → IsOthers n p (partner_mask ls)
  mask_ok [] h = others_zero n p
  mask_ok (l ∷ ls) h =
      let k = h 0 l refl in
      subst (IsOthers n p) (or_comm (partner_mask ls) (2 ^ l.partner)) (others_or n p (partner_mask ls) l.partner k.partner k.other (mask_ok ls (λ i m e. h (suc i) m e)))

  booted_ok : (ls : List Link) → AreLawful ls → AllOk n minor p (booted_words ls)
  booted_ok [] h = tt
  booted_ok (l ∷ ls) h =
      let m = mask_ok (l ∷ ls) h in
      (record { small = omega arith; allowed = refl; exact = λ e. absurd (omega (arith, e)) }, (record { small = omega arith; allowed = refl; exact = λ e. absurd (omega (arith, e)) }, (mask_fits s law p _ m, (engaged_fits s law p _ m, tt))))

  link_ok : (l : Link) → Lawful l → AllOk n minor p (link_words l)
  link_ok l k =
      let q = k.partner in
      let c = k.channel in (
        record { small = omega arith; allowed = refl; exact = tt },
        (
          record { small = omega arith; allowed = refl; exact = tt },
          (
            record { small = omega arith; allowed = refl; exact = tt },
            (
              record { small = omega (arith, q, high); allowed = own_place (place_of Newer (fields.Args l.partner 0 0)) (index_of (Args l.partner 0 0)) (omega arith); exact = tt },
              (
                record { small = omega (arith, q, high); allowed = own_place (place_of Newer (fields.Counter l.partner 0 0)) (index_of (Counter l.partner 0 0)) (omega arith); exact = tt },
                (
                  record { small = omega (arith, q, high); allowed = own_place (place_of Newer (fields.Flag l.partner)) (index_of (Flag l.partner)) (omega arith); exact = tt },
                  (
                    record { small = omega arith; allowed = refl; exact = tt },
                    (
                      record { small = request_small (size_of l) k.size.0; allowed = request_allowed (size_of l) k.size.0; exact = tt },
                      (record { small = omega (arith, q, c, high); allowed = own_place (place_of Newer (fields.Entry l.partner l.channel 0)) (index_of (Entry l.partner l.channel 0)) (omega arith); exact = tt }, tt),
                    ),
                  ),
                ),
              ),
            ),
          ),
        ),
      )

  links_ok : (ls : List Link) → AreLawful ls → AllOk n minor p (all_link_words ls)
  links_ok [] h = tt
  links_ok (l ∷ ls) h = ok_append n minor p (link_words l) (all_link_words ls) (link_ok l (h 0 l refl)) (links_ok ls (λ i m e. h (suc i) m e))

  pub opened_fits : (x : Place) → IsWithin x → At x (opening_words s p x)
  opened_fits x l =
      let o = own_from s 0 s.count (λ q pl. 0) p (λ y. refl) (omega arith) (omega (arith, lp)) in
      let ls = links_of s p in
      let one = paged o.before o.zeros in
      let two = write_words one p (booted_words ls) in
      subst (At x) (sym (o.is x)) (writes_fit n minor two p (all_link_words ls) (links_ok ls lawful_at) x (writes_fit n minor one p (booted_words ls) (booted_ok ls lawful_at) x (paged_fits o.before o.zeros x l)))

  -- ---- what the partition knows
  line_fits : LINE_BYTES ≤ longest_limit minor
  line_fits = by (nat_lt 1 minor) where
    by : (b : Bool) → 112 ≤ cond b 1008 112
    by true = omega arith
    by false = omega arith

  abbrev most : ℕ
  most = longest_limit minor

  base_backed : (ls : List Link) → IsBacked most 0 (base_peer ls)
  base_backed [] = record { read = λ v e. absurd (cc); count = omega arith; ends = (cold_backed most 0 line_fits Old).ends }
  base_backed (l ∷ ls) = record { read = λ v e. absurd (cc); count = omega arith; ends = (cold_backed most 0 line_fits Old).ends }

  base_shut : (ls : List Link) → IsShut (base_peer ls)
  base_shut [] = (refl, refl)
  base_shut (l ∷ ls) = (refl, refl)

  first_at : (P : Peer → Type 0) (k : ℕ) (ls : List Link) (q : ℕ) → P (base_peer ls) → P (cold_peer Old) → P (peer_at (first_peers k ls) q)
  unfolding first_peers
  first_at P k ls q h c = by (cases_lt q k) where
    by : (q < k) ⊎ (k ≤ q) → P (peer_at (replicate k (base_peer ls)) q)
    by (inl l) = subst P (sym (get_or-replicate k q (base_peer ls) (cold_peer Old) l)) h
    by (inr l) = subst P (sym (get_or_past (replicate k (base_peer ls)) q (cold_peer Old) (omega (arith, length-replicate {A = Peer} k (base_peer ls), l)))) c

  -- an end that is in contact without a connection has the facts of before
  warm_one : (new : Bool) (l : Link) (x : Peer) → Lawful l → IsBacked most 0 x → IsBacked most 0 (warm_peer new l x)
  warm_one new l x k h = record {
    read = λ v e. (let z : 4294967297 ≡ v = cc in omega (arith, z));
    count = omega arith;
    ends = λ c.
        at_slot (λ (e : End). Backed most 0 (facts e)) (each (λ d e. first_met new e) 0 x.links) l.channel c (warm_end new l) idle_end (λ e. warm_backed most 0 line_fits new l k.size)
        (at_each (λ (e : End). Backed most 0 (facts e)) (λ d e. first_met new e) x.links c idle_end (h.ends c) (λ past. idle_backed most 0 line_fits));
  }

  warm_all : (new : ℕ → Bool) (ls : List Link) → AreLawful ls → (peers : List Peer) → ((q : ℕ) → IsBacked most 0 (peer_at peers q)) → (q : ℕ) → IsBacked most 0 (peer_at (opened_peers new ls peers) q)
  warm_all new [] h peers old q = old q
  warm_all new (l ∷ ls) h peers old q = warm_all new ls (λ i m e. h (suc i) m e) _ (λ j. at_peer (λ (x : Peer). IsBacked most 0 x) peers l.partner (warm_peer (new l.partner) l (peer_at peers l.partner)) j (λ e. warm_one (new l.partner) l (peer_at peers l.partner) (h 0 l refl) (old l.partner)) (old j)) q

  warm_shut : (new : ℕ → Bool) (ls : List Link) → AreLawful ls → (peers : List Peer) → IsShut (peer_at peers p) → IsShut (peer_at (opened_peers new ls peers) p)
  warm_shut new [] h peers old = old
  warm_shut new (l ∷ ls) h peers old = warm_shut new ls (λ i m e. h (suc i) m e) _ (at_peer IsShut peers l.partner (warm_peer (new l.partner) l (peer_at peers l.partner)) p (λ e. absurd ((h 0 l refl).other (sym e))) old)

  stamp_low : (ls : List Link) → opening_stamp ls ≤ 1
  stamp_low [] = omega arith
  stamp_low (l ∷ ls) = omega arith

  stamp_booting : (ls : List Link) → opening_stamp ls + booting (opening_life ls) ≤ 1
  stamp_booting [] = omega arith
  stamp_booting (l ∷ ls) = omega arith

  pub opened_known : Knows (part_of s p) (longest_limit minor) (opening_words s p (Open STAMP)) (opened_state (part_of s p))
  opened_known =
      let ls = links_of s p in
      record {
        all = start_all (part_of s p);
        peers = λ q. warm_all (opened_new (part_of s p)) ls lawful_at (first_peers s.count ls) (λ j. first_at (λ (x : Peer). IsBacked most 0 x) s.count ls j (base_backed ls) (cold_backed most 0 line_fits Old)) q;
        own = warm_shut (opened_new (part_of s p)) ls lawful_at (first_peers s.count ls) (first_at IsShut s.count ls p (base_shut ls) (refl, refl));
        begun = omega arith;
        beats = record { offline = omega arith; stored_for = omega arith };
        stamp = stamp_low ls;
        read = λ v e. absurd (cc);
        word = (let e = opening_stamped s p lp in let l = stamp_booting ls in omega (arith, e, l));
      }
