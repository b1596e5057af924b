-- Words that are printed fit the form that they were printed for.
use Rattle.std.proofs.Common.{◌≡◌, ◌≢◌, ℕ, ◌+◌, ◌*◌, ◌^◌, ◌<◌, ◌≤◌, Bool, true, false, cond, eqb, ◌||◌, inl, inr, List, [], ◌∷◌, length, refl, sym, ap, subst, ◌∙◌, arith, Option, Some, None, Ok}
use Rattle.std.specs.Prelude.{codes}
use Rattle.std.specs.Fmt.{decimal}
use Rattle.std.specs.List.{AllByRecursion}
use Rattle.std.proofs.lemmas.Bool.{lt-ltb, le-leb, ne_eqb, eq-eqb}
use Rattle.xp_base.specs.declared.layout.TheConstants.{CHANNELS, LINES}
use Rattle.xp_base.specs.declared.step.CopyKind.{CopyKind}
use Rattle.xp_base.specs.declared.step.CopyKind.TheVariants.{Page, Beat, Record, Args, Counters, Get, Entries, Buffer}
use Rattle.xp_base.specs.Entries.{lines}
use Rattle.xp_base.specs.Reasons.{copy_text}
use Rattle.xp_script.specs.declared.limits.TheConstants.{DEVICE_CHANNEL}
use Rattle.xp_script.specs.Lawful.{AreBytes}
use Rattle.xp_text.specs.declared.payloads.TheConstants.{RUN_BYTES}
use Rattle.xp_text.specs.Numbers.{digits_of}
use Rattle.xp_text.specs.Payloads.{payload_of, at_most}
use Rattle.xp_forms.specs.declared.fault.LineCause.{LineCause}
use Rattle.xp_forms.specs.Forms.{Slot, Form, field, kind_of, sized, is_ascii, small}
use Rattle.xp_forms.specs.Forms.Slot.{Number, Interval, Part, Other, AnyChannel, MessageChannel, Limit}
use Rattle.xp_forms.specs.Forms.Form.{End, Field, Kind, Bytes, Choice, Unless, Peek}
use Rattle.xp_forms.specs.Fits.{Fits}
use Rattle.xp_forms.specs.Values.{IsIn}
use Rattle.xp_print.specs.Payloads.{payload_word}
use Rattle.xp_language_laws.proofs.Lexing.{IsText, text_if, placed, all_plain, number_read, number_is_text}
use Rattle.xp_language_laws.proofs.PayloadRuns.{again}

-- ---- words

or_true : (b : Bool) → b || true ≡ true
or_true true = refl
or_true false = refl

in_slot : (s : Slot) (n : ℕ) → IsIn s n → field s (Some n) ≡ Ok n
in_slot (Number low high) n h = rw (le-leb low n h.0, le-leb n high h.1) refl
in_slot (Interval low high) n (inl e) = rw (eq-eqb n 0 e) refl
in_slot (Interval low high) n (inr h) = rw (le-leb low n h.0, le-leb n high h.1, or_true (eqb n 0)) refl
in_slot (Part count) n h = rw (lt-ltb n count h) refl
in_slot (Other count own) n h = rw (lt-ltb n count h.0, ne_eqb n own h.1) refl
in_slot AnyChannel n h = rw (lt-ltb n CHANNELS h) refl
in_slot MessageChannel n h = rw (lt-ltb n CHANNELS h.0, ne_eqb n DEVICE_CHANNEL h.1) refl
in_slot (Limit longest entries) n h = rw (le-leb n longest h.0, le-leb (entries * lines n) LINES h.1) refl

slot_read : (s : Slot) (n : ℕ) → n < 2 ^ 64 → IsIn s n → field s (digits_of (decimal n)) ≡ Ok n
slot_read s n fits h = ap (field s) (number_read n fits) ∙ in_slot s n h

plain_number : (n : ℕ) → n < 2 ^ 64 → is_ascii (decimal n) ≡ true
plain_number n fits = all_plain (decimal n) (number_is_text n fits).bytes

number_seen : (n : ℕ) → n < 2 ^ 64 → small (digits_of (decimal n)) ≡ Some n
number_seen n fits = ap small (number_read n fits) ∙ ap (λ (b : Bool). cond b (Some n) None) (lt-ltb n 18446744073709551616 fits)

sized_again : (least most : ℕ) (bs : List ℕ) (o : Option (List ℕ)) → least ≤ length bs → length bs ≤ most → o ≡ Some bs → sized true least (at_most most o) ≡ Ok bs
sized_again least most bs o low high e = rw (e, le-leb (length bs) most high, le-leb least (length bs) low) refl

kind_is_text : (k : CopyKind) → IsText (copy_text k)
kind_is_text Page = text_if (codes "page") refl refl
kind_is_text Beat = text_if (codes "beat") refl refl
kind_is_text Record = text_if (codes "record") refl refl
kind_is_text Args = text_if (codes "args") refl refl
kind_is_text Counters = text_if (codes "counters") refl refl
kind_is_text Get = text_if (codes "get") refl refl
kind_is_text Entries = text_if (codes "entries") refl refl
kind_is_text Buffer = text_if (codes "buffer") refl refl

kind_again : (k : CopyKind) → kind_of (copy_text k) ≡ Ok k
kind_again Page = refl
kind_again Beat = refl
kind_again Record = refl
kind_again Args = refl
kind_again Counters = refl
kind_again Get = refl
kind_again Entries = refl
kind_again Buffer = refl

-- ---- forms

-- the words are words, and fit the form, and say y, wherever they stand
pub record Prints {A : Type 0} (form : Form A) (words : List (List ℕ)) (y : A) : Type 0 where
  pub texts : AllByRecursion IsText words
  pub fits : (k : ℕ) → Fits form (placed k words) y

pub ends_there : {A : Type 0} {cause : LineCause} {x : A} → Prints (End cause x) [] x
ends_there = record { texts = tt; fits = λ k. refl }

pub number_then : {A : Type 0} {s : Slot} {f : ℕ → Form A} {words : List (List ℕ)} {y : A} (n : ℕ) → n < 2 ^ 64 → IsIn s n → Prints (f n) words y → Prints (Field s f) (decimal n ∷ words) y
number_then n fits h p = record {
  texts = (number_is_text n fits, p.texts);
  fits = λ k. (plain_number n fits, n, slot_read _ n fits h, p.fits (k + length (decimal n) + 1));
}

pub kind_then : {A : Type 0} {f : CopyKind → Form A} {words : List (List ℕ)} {y : A} (kind : CopyKind) → Prints (f kind) words y → Prints (Kind f) (copy_text kind ∷ words) y
kind_then kind p = record {
  texts = (kind_is_text kind, p.texts);
  fits = λ k. (all_plain (copy_text kind) (kind_is_text kind).bytes, kind, kind_again kind, p.fits (k + length (copy_text kind) + 1));
}

pub payload_then : {A : Type 0} {least most : ℕ} {f : List ℕ → Form A} {words : List (List ℕ)} {y : A} (bs : List ℕ) → AreBytes bs → least ≤ length bs → length bs ≤ most → most ≤ RUN_BYTES → Prints (f bs) words y → Prints (Bytes true least most f) (payload_word bs ∷ words) y
payload_then {least = least} {most = most} bs bytes low high few p =
    let a = again bs bytes (omega (arith, high, few)) in
    record {
      texts = (a.text, p.texts);
      fits = λ k. (all_plain (payload_word bs) a.text.bytes, bs, sized_again least most bs (payload_of (payload_word bs)) low high a.spelled, p.fits (k + length (payload_word bs) + 1));
    }

pub word_then : {A : Type 0} {f g : Form A} {words : List (List ℕ)} {y : A} (w : List ℕ) → IsText w → Prints f words y → Prints (Choice w f g) (w ∷ words) y
word_then w t p = record {
  texts = (t, p.texts);
  fits = λ k. inl (refl, p.fits (k + length w + 1));
}

pub other_then : {A : Type 0} {w : List ℕ} {f g : Form A} {words : List (List ℕ)} {y : A} (v : List ℕ) → v ≢ w → Prints g (v ∷ words) y → Prints (Choice w f g) (v ∷ words) y
other_then v ne p = record { texts = p.texts; fits = λ k. inr (ne, p.fits k) }

pub nothing_then : {A : Type 0} {w : List ℕ} {f g : Form A} {y : A} → Prints g [] y → Prints (Choice w f g) [] y
nothing_then p = record { texts = tt; fits = λ k. p.fits k }

pub right_then : {A : Type 0} {wrong : Bool} {cause : LineCause} {f : Form A} {words : List (List ℕ)} {y : A} → wrong ≡ false → Prints f words y → Prints (Unless wrong cause f) words y
right_then e p = record { texts = p.texts; fits = λ k. (e, p.fits k) }

pub seen_then : {A : Type 0} {f : Option ℕ → Form A} {words : List (List ℕ)} {y : A} (n : ℕ) → n < 2 ^ 64 → Prints (f (Some n)) (decimal n ∷ words) y → Prints (Peek f) (decimal n ∷ words) y
seen_then {f = f} {words = words} {y = y} n fits p = record {
  texts = p.texts;
  fits = λ k. subst (λ (o : Option ℕ). Fits (f o) (placed k (decimal n ∷ words)) y) (sym (number_seen n fits)) (p.fits k);
}
