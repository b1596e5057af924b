-- The memory of a history that the rules reach has words of each kind that a dump may hold; so it is in the grammar of a dump, and its dump tells it.
use Rattle.std.proofs.Common.{◌≡◌, ℕ, ◌+◌, ◌*◌, ◌/◌, ◌%◌, ◌^◌, ◌<◌, ◌≤◌, true, List, [], length, get_or, refl, ap, sym, ◌∙◌, subst, arith, inl, inr, ◌⊎◌}
use Rattle.std.proofs.lemmas.Bool.{cases_lt}
use Rattle.std.proofs.lemmas.List.{get_or_past}
use Rattle.xp_base.specs.declared.layout.TheConstants.{VERSION_AT, VARIABLES_AT, ACTIVATION, PART_WORDS, BUFFER_WORDS}
use Rattle.xp_base.specs.Memory.{Memory, word_at}
use Rattle.xp_base.specs.History.{Event}
use Rattle.xp_base.specs.Places.{Place, Open, Record, Flag, Args, Counter, Entry, Pool, IsWithin, index_of}
use Rattle.xp_page.specs.Grammar.{allows}
use Rattle.xp_dump.specs.Grammar.{IsInGrammar, IsDump, dump_bytes, part_row}
use Rattle.xp_dump.proofs.Back.{dump_tells}
use Rattle.xp_dump_table.specs.declared.layout.Layout.TheVariants.{Newer}
use Rattle.xp_dump_table.specs.declared.layout.Field.{Field}
use Rattle.xp_dump_table.specs.declared.layout.Field.TheVariants as fields
use Rattle.xp_dump_table.specs.declared.table.Part.{Part}
use Rattle.xp_dump_table.specs.Layouts.{IsField, place_of}
use Rattle.xp_dump_table.specs.Layouts.{field_of as field_at}
use Rattle.xp_dump_table.specs.Table.{row_of}
use Rattle.xp_dump_table.proofs.Fields.{field_stands}
use Rattle.xp_script.specs.declared.scenario.Scenario.{Scenario}
use Rattle.xp_script.specs.Lawful.{IsLawful}
use Rattle.xp_script.specs.Opening.{version_word}
use Rattle.xp_script.specs.Settings.{minor_of}
use Rattle.xp_protocol.specs.Reached.{ReachedWords}
use Rattle.xp_meetings.proofs.Words.{Words, Agrees}
use Rattle.xp_written_words.specs.Written.{dumped_part, IsAllowed, AreAllAllowed}
use Rattle.xp_written_words.proofs.Fits.{AllFit, field_of, part_at}
use Rattle.xp_written_words.proofs.Reached.{all_fit}

module _ (s : Scenario) (law : IsLawful s) (m : Memory) (w : Words) (agrees : Agrees s.count m w) (fit : AllFit s.count (λ p. minor_of p s.minors) w) where
  version_is : (p : ℕ) → p < s.count → word_at m p VERSION_AT ≡ version_word (minor_of p s.minors)
  version_is p l = agrees.words p (Open VERSION_AT) l (omega arith) ∙ (fit p (Open VERSION_AT) l (omega arith)).exact refl

  part_is : (p : ℕ) → p < s.count → dumped_part m p ≡ part_at s.count (minor_of p s.minors) p
  part_is p l = let v = version_is p l in λ i. record { layout = Newer; owner = p; count = agrees.shape.count i; version = v i }

  allowed_at : (p : ℕ) (pl : Place) → p < length m → IsWithin pl → index_of pl ≡ place_of Newer (field_of pl) → IsAllowed m p (field_of pl)
  allowed_at p pl low within d =
      let count = agrees.shape.count in
      let l : p < s.count = omega (arith, low, count) in
      let f = fit p pl l within in
      let e : word_at m p (place_of Newer (field_of pl)) ≡ w p pl = ap (word_at m p) (sym d) ∙ agrees.words p pl l within in
      let P : Part → ℕ → Type 0 = λ t v. allows (row_of t (field_of pl)).allowed v ≡ true in
      record {
        small = subst (λ (v : ℕ). v < 2 ^ 64) (sym e) f.small;
        allowed = subst (λ (t : Part). P t (word_at m p (place_of Newer (field_of pl)))) (sym (part_is p l)) (subst (λ (v : ℕ). P (part_at s.count (minor_of p s.minors) p) v) (sym e) f.allowed);
      }

  buffer : (p x : ℕ) → p < length m → x < 1536 → IsAllowed m p (fields.Pool x)
  buffer p x low l =
      let e : BUFFER_WORDS * (x / BUFFER_WORDS) + x % BUFFER_WORDS ≡ x = omega arith in
      subst (λ (k : ℕ). IsAllowed m p (fields.Pool k)) e (allowed_at p (Pool (x / BUFFER_WORDS) (x % BUFFER_WORDS)) low (omega (arith, l), omega arith) (omega arith))

  pub kinds : AreAllAllowed m
  kinds =
      let count = agrees.shape.count in
      let least = law.numbers.count.low in
      let most = law.numbers.count.high in
      record {
        least = omega (arith, count, least);
        most = omega (arith, count, most);
        sized = λ p l. agrees.shape.rows p (omega (arith, count, l));
        page = λ p n l h. allowed_at p (Open n) l (omega (arith, h)) refl;
        beats = λ p n l k h. allowed_at p (Open n) l (omega (arith, h)) refl;
        signals = λ p n l k h. allowed_at p (Open n) l h refl;
        records = λ p q f l lq lf. allowed_at p (Record q f) l (lq, lf) (omega arith);
        flags = λ p q l lq. allowed_at p (Flag q) l lq (omega arith);
        arguments = λ p q c f l lq lc lf. allowed_at p (Args q c f) l (lq, lc, lf) (omega arith);
        counters = λ p q c f l lq lc lf. allowed_at p (Counter q c f) l (lq, lc, lf) (omega arith);
        entries = λ p q c x l lq lc lx. allowed_at p (Entry q c x) l (lq, lc, lx) (omega arith);
        buffers = λ p x l lx. buffer p x l lx;
      }

-- of all kinds together
module _ (m : Memory) (h : AreAllAllowed m) where
  each_field : (p : ℕ) (field : Field) → p < length m → IsField Newer field → IsAllowed m p field
  each_field p (fields.Open n) l f = by (cases_lt n VARIABLES_AT) (cases_lt n ACTIVATION) where
    by : (n < VARIABLES_AT) ⊎ (VARIABLES_AT ≤ n) → (n < ACTIVATION) ⊎ (ACTIVATION ≤ n) → IsAllowed m p (fields.Open n)
    by (inl low) k = h.page p n l low
    by (inr high) (inl low) = h.beats p n l high low
    by (inr high) (inr k) = h.signals p n l k f
  each_field p (fields.Record q f) l w = h.records p q f l w.0 w.1
  each_field p (fields.Flag q) l w = h.flags p q l w
  each_field p (fields.Args q c f) l w = h.arguments p q c f l w.0 w.1 w.2
  each_field p (fields.Counter q c f) l w = h.counters p q c f l w.0 w.1 w.2
  each_field p (fields.Entry q c x) l w = h.entries p q c x l w.0 w.1 w.2
  each_field p (fields.Pool x) l w = h.buffers p x l w

  here : (p i : ℕ) → p < length m → i < PART_WORDS → IsAllowed m p (field_at Newer i)
  here p i l k = each_field p (field_at Newer i) l (field_stands Newer i k).within

  small : (p i : ℕ) → word_at m p i < 2 ^ 64
  small p i = by (cases_lt p (length m)) (cases_lt i PART_WORDS) where
    by : (p < length m) ⊎ (length m ≤ p) → (i < PART_WORDS) ⊎ (PART_WORDS ≤ i) → word_at m p i < 2 ^ 64
    by (inl l) (inl k) = subst (λ (x : ℕ). word_at m p x < 2 ^ 64) (field_stands Newer i k).place (here p i l k).small
    by (inl l) (inr k) =
        let z : word_at m p i ≡ 0 = get_or_past (get_or m p []) i 0 (omega (arith, h.sized p l, k)) in
        omega (arith, z)
    by (inr l) k =
        let z : word_at m p i ≡ 0 = ap (λ (row : List ℕ). get_or row i 0) (get_or_past m p [] l) in
        omega (arith, z)

  pub in_grammar : IsInGrammar m
  in_grammar = record {
    least = h.least;
    most = h.most;
    sized = h.sized;
    small = small;
    words = λ p i l k. subst (λ (x : ℕ). allows (part_row Newer (length m) (word_at m p VERSION_AT) p i).allowed (word_at m p x) ≡ true) (field_stands Newer i k).place (here p i l k).allowed;
  }

pub kinds_allowed : (s : Scenario) → IsLawful s → (h : List Event) (m : Memory) → ReachedWords s h m → AreAllAllowed m
kinds_allowed s law h m r = let k = all_fit s law h m r in kinds s law m k.0 k.1 k.2

pub reached_grammar : (s : Scenario) → IsLawful s → (h : List Event) (m : Memory) → ReachedWords s h m → IsInGrammar m
reached_grammar s law h m r = in_grammar m (kinds_allowed s law h m r)

pub reached_dump : (s : Scenario) → IsLawful s → (h : List Event) (m : Memory) → ReachedWords s h m → IsDump (dump_bytes m) m
reached_dump s law h m r = dump_tells m (reached_grammar s law h m r)
