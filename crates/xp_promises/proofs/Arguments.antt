-- Arguments and sizes: what an end stores before its flags stands until its epoch ends, and what its partner has loaded is what was stored.
use Rattle.std.proofs.Common.{◌≡◌, ℕ, ◌+◌, ◌*◌, ◌/◌, ◌%◌, ◌≤◌, nat_lt, Bool, true, false, ◌&&◌, refl, ap, sym, ◌∙◌, subst, arith, Option, Some, None}
use Rattle.xp_base.specs.Entries.{lines}
use Rattle.xp_base.specs.declared.layout.TheConstants.{LINES}
use Rattle.xp_base.specs.declared.body.TheConstants.{BODY_BYTES}
use Rattle.std.specs.Prelude.{is_some}
use Rattle.std.proofs.lemmas.Bool.{or_left}
use Rattle.std.proofs.lemmas.Bool.Decides.{nat_tests}
use Rattle.xp_base.specs.declared.reason.Reason.{Reason}
use Rattle.xp_base.specs.declared.reason.Reason.TheVariants.{Unregistered, PartnerClosed, UnequalSizes, CopyError, NoHeartbeat, Reactivating, OtherGoingDown, Unloading, BadVersion, BadMagic, BadArgs, BadCounters, BadLength, BadNumber, BadFlags}
use Rattle.xp_base.specs.Reasons.{reason_code}
use Rattle.xp_protocol.specs.Parts.{IsRequestSize}
use Rattle.xp_protocol.specs.Promised.{IsUnrefused, size_asked}
use Rattle.xp_protocol.specs.Pulling.{lesser}
use Rattle.xp_protocol.specs.State.{Size, Replied, request_word, size_in}
use Rattle.xp_protocol.specs.Linking.{request_of, code_of, agreed_by, kept_for, is_request, is_code}
use Rattle.xp_promises.proofs.FlagEnds.{Kinds as Five, no_kinds as no_five, Oreq, Orep, Ocomp, Creq, Crep, also, without, both}

-- the argument words of an end: the request, whether the reply is the place of the own entries, and the code
pub record Sheet : Type 0 where
  pub request : ℕ
  pub reply : Bool
  pub code : ℕ

-- what arguments and sizes read of an end: the sizes that both ends ask for, and those of its sides
pub record Terms : Type 0 where
  pub epoch : ℕ
  pub sent : Five
  pub got : Five
  pub taken : Five
  pub new : Bool
  pub reason : Option Reason
  pub registration : Option Size
  pub own : Size
  pub their : Size
  pub sending : Size
  pub pulling : Size
  pub request : Option ℕ
  pub reply : Option Replied
  pub code : Option ℕ
  pub request_put : Option ℕ
  pub reply_put : Bool
  pub code_put : Bool
  pub copying : Bool

-- a size with the limit that two ends agree on
abbrev pub agreed_size : Size → Size → Size → Size
agreed_size z own their = record { entries = z.entries; limit = lesser own.limit their.limit }

-- an end and its words: what was stored in this epoch stands, and it was stored before each flag that was sent; the size of the epoch is that of the registration,
-- as long as the end doesn't close; no copy goes on once the close reply was sent; a limit is agreed where the open reply was sent, and both sides have it where the
-- open complete was
pub record Said (x : Sheet) (sent : Five) (new : Bool) (reason : Option Reason) (registration : Option Size) (own their sending pulling : Size) (request_put : Option ℕ) (reply_put code_put copying : Bool) : Type 0 where
  pub put_request : (v : ℕ) → request_put ≡ Some v → x.request ≡ v
  pub put_reply : reply_put ≡ true → x.reply ≡ true
  pub put_code : code_put ≡ true → (is_some reason ≡ true) × (x.code ≡ code_of reason)
  pub asked : sent.oreq ≡ true → request_put ≡ Some (request_word own)
  pub replied : sent.orep ≡ true → reply_put ≡ true
  pub coded : sent.creq ≡ true → code_put ≡ true
  pub size : sent.oreq ≡ true → IsRequestSize own.entries own.limit
  pub lawful : (z : Size) → registration ≡ Some z → IsRequestSize z.entries z.limit
  pub stands : sent.oreq ≡ true → reason ≡ None → registration ≡ Some own
  pub idle : sent.crep ≡ true → copying ≡ false
  pub clean : IsUnrefused reason
  pub limit : sent.orep ≡ true → is_some (agreed_by new own.limit their.limit) ≡ true
  pub sides : sent.ocomp ≡ true → (sending ≡ agreed_size own own their) × (pulling ≡ agreed_size their own their)

-- what an end has of its partner's words x: an argument that was loaded for a flag that is taken is the one that stands; the size that was got in the same epoch is the partner's
pub record Heard (x : Sheet) (their_epoch epoch : ℕ) (theirs : Size) (taken got : Five) (their : Size) (asked : Option ℕ) (replied : Option Replied) (coded : Option ℕ) : Type 0 where
  pub request : (v : ℕ) → asked ≡ Some v → (taken.oreq ≡ true) × (v ≡ x.request)
  pub reply : (v : Replied) → replied ≡ Some v → (taken.orep ≡ true) × (v.right ≡ true)
  pub code : (v : ℕ) → coded ≡ Some v → (taken.creq ≡ true) × (v ≡ x.code)
  pub sizes : their_epoch ≡ epoch → got.oreq ≡ true → their ≡ theirs
  pub reply_after : got.orep ≡ true → got.oreq ≡ true
  pub complete_after : got.ocomp ≡ true → got.orep ≡ true

abbrev pub SaidBy : Sheet → Terms → Type 0
SaidBy x a = Said x a.sent a.new a.reason a.registration a.own a.their a.sending a.pulling a.request_put a.reply_put a.code_put a.copying

abbrev pub HeardBy : Sheet → Terms → Terms → Type 0
HeardBy x a b = Heard x a.epoch b.epoch a.own b.taken b.got b.their b.request b.reply b.code

pub record Argued (x y : Sheet) (a b : Terms) : Type 0 where
  pub mine : SaidBy x a
  pub theirs : SaidBy y b
  pub heard : HeardBy x a b
  pub hears : HeardBy y b a

pub turned : (x y : Sheet) (a b : Terms) → Argued x y a b → Argued y x b a
turned x y a b h = record { mine = h.theirs; theirs = h.mine; heard = h.hears; hears = h.heard }

-- a size goes through its word
pub size_back : (z : Size) → IsRequestSize z.entries z.limit → (size_in (request_word z) ≡ z) × (is_request (request_word z) ≡ true)
size_back z h =
    let e : request_word z / 65536 ≡ z.entries = omega (arith, h.2) in
    let l : request_word z % 65536 ≡ z.limit = omega (arith, h.2) in
    ((λ i. record { entries = e i; limit = l i }), test z.entries z.limit (request_word z / 65536) (request_word z % 65536) h e l) where
      test : (n m a b : ℕ) → IsRequestSize n m → a ≡ n → b ≡ m → (nat_lt 0 a && (nat_lt a (LINES + 1) && (nat_lt b (BODY_BYTES + 1) && nat_lt (a * lines b) (LINES + 1)))) ≡ true
      test n m a b h e l =
          let p : a * lines b ≤ LINES = subst (λ (x : ℕ). x * lines b ≤ LINES) (sym e) (subst (λ (y : ℕ). n * lines y ≤ LINES) (sym l) h.3) in
          grind (arith, nat_tests, h, p)

-- the lesser of two limits is no more than either, so a size with it fits as well
pub lesser_turned : (a b : ℕ) → lesser a b ≡ lesser b a
lesser_turned a b = grind (arith, nat_tests)

lesser_first : (a b : ℕ) → lesser a b ≤ a
lesser_first a b = grind (arith, nat_tests)

lesser_second : (a b : ℕ) → lesser a b ≤ b
lesser_second a b = grind (arith, nat_tests)

pub size_agreed : (z own their : Size) → IsRequestSize z.entries z.limit → lesser own.limit their.limit ≤ z.limit → (let k = agreed_size z own their in IsRequestSize k.entries k.limit)
size_agreed z own their h le = (h.0, h.1, omega (arith, h.2, le), fits (lesser own.limit their.limit) le) where
  more : (a b : ℕ) → a ≤ b → lines a ≤ lines b
  more a b h = omega (arith, h)

  fits : (m : ℕ) → m ≤ z.limit → z.entries * lines m ≤ LINES
  fits m h' = let k = more m z.limit h' in grind (arith, h, k)

-- both ends agree on the sizes of their sides
pub record AreAgreed (a b : Terms) : Type 0 where
  pub own : (let z = agreed_size a.own a.own a.their in IsRequestSize z.entries z.limit)
  pub their : (let z = agreed_size a.their a.own a.their in IsRequestSize z.entries z.limit)
  pub fit : b.sent.ocomp ≡ true → b.got.oreq ≡ true → (b.pulling ≡ agreed_size a.own a.own a.their) × (b.sending ≡ agreed_size a.their a.own a.their)

pub code_back : (o : Option Reason) → is_some o ≡ true → is_code (code_of o) ≡ true
code_back None h = absurd (cc)
code_back (Some r) h = by r where
  by : (r : Reason) → is_code (reason_code r) ≡ true
  by Unregistered = refl
  by (PartnerClosed code) = refl
  by (UnequalSizes own theirs) = refl
  by (CopyError kind number) = refl
  by (NoHeartbeat last now mask) = refl
  by (Reactivating old new) = refl
  by (OtherGoingDown word) = refl
  by Unloading = refl
  by (BadVersion word) = refl
  by (BadMagic word) = refl
  by (BadArgs word) = refl
  by (BadCounters get put) = refl
  by (BadLength word) = refl
  by (BadNumber wanted word) = refl
  by (BadFlags word) = refl

pub kept_some : (o : Option Reason) (r : Option Size) (z : Size) → kept_for o r ≡ Some z → r ≡ Some z
kept_some None r z h = h
kept_some (Some (UnequalSizes own theirs)) r z h = absurd (cc)
kept_some (Some (BadArgs word)) r z h = absurd (cc)
kept_some (Some reason) r z h = h

module _ (x y : Sheet) (a b : Terms) (h : Argued x y a b) where
  -- the own word of flags is taken
  pub takes_terms : (w : Five) → Argued x y (record a { taken = both a.taken w }) b
  takes_terms w = record {
    mine = h.mine;
    theirs = h.theirs;
    heard = h.heard;
    hears = record {
      request = λ v e. (let k = h.hears.request v e in (or_left _ _ k.0, k.1));
      reply = λ v e. (let k = h.hears.reply v e in (or_left _ _ k.0, k.1));
      code = λ v e. (let k = h.hears.code v e in (or_left _ _ k.0, k.1));
      sizes = h.hears.sizes;
      reply_after = h.hears.reply_after;
      complete_after = h.hears.complete_after;
    };
  }

  -- a reason is given where none stands
  pub closes_terms : (r : Reason) → IsUnrefused (Some r) → a.reason ≡ None → Argued x y (record a { reason = Some r; copying = false }) b
  closes_terms r clean none = record {
    theirs = h.theirs;
    heard = h.heard;
    hears = h.hears;
    mine = record {
      put_request = h.mine.put_request;
      put_reply = h.mine.put_reply;
      put_code = λ t. (let k = (h.mine.put_code t).0 in let f : is_some a.reason ≡ false = ap (λ (o : Option Reason). is_some o) none in absurd (cc));
      asked = h.mine.asked;
      replied = h.mine.replied;
      coded = h.mine.coded;
      size = h.mine.size;
      lawful = h.mine.lawful;
      stands = λ s e. absurd (cc);
      idle = λ t. refl;
      clean = clean;
      limit = h.mine.limit;
      sides = h.mine.sides;
    };
  }

  -- flags are sent: the open request with the size of the registration
  pub sends_oreq : is_some a.registration ≡ true → a.request_put ≡ Some (request_of a.registration) → (a.epoch ≡ b.epoch → b.got.oreq ≡ true → ⊥) → a.sent.orep ≡ false → a.sent.ocomp ≡ false → Argued x y (record a { sent = also Oreq a.sent; own = size_asked a.registration }) b
  sends_oreq reg put none unsent unopened = record {
    theirs = h.theirs;
    heard = record { request = h.heard.request; reply = h.heard.reply; code = h.heard.code; sizes = λ e g. absurd (none e g); reply_after = h.heard.reply_after; complete_after = h.heard.complete_after };
    hears = h.hears;
    mine = record {
      put_request = h.mine.put_request;
      put_reply = h.mine.put_reply;
      put_code = h.mine.put_code;
      asked = λ t. put ∙ ap (λ (n : ℕ). Some n) (word a.registration reg);
      replied = h.mine.replied;
      coded = h.mine.coded;
      size = λ t. h.mine.lawful _ (is a.registration reg);
      lawful = h.mine.lawful;
      stands = λ s e. is a.registration reg;
      idle = h.mine.idle;
      clean = h.mine.clean;
      limit = λ t. absurd (cc);
      sides = λ t. absurd (cc);
    };
  } where
    word : (o : Option Size) → is_some o ≡ true → request_of o ≡ request_word (size_asked o)
    word None t = absurd (cc)
    word (Some z) t = refl

    is : (o : Option Size) → is_some o ≡ true → o ≡ Some (size_asked o)
    is None t = absurd (cc)
    is (Some z) t = refl

  pub sends_orep : a.reply_put ≡ true → is_some (agreed_by a.new a.own.limit a.their.limit) ≡ true → Argued x y (record a { sent = also Orep a.sent }) b
  sends_orep put agreed = record {
    theirs = h.theirs;
    heard = h.heard;
    hears = h.hears;
    mine = record { put_request = h.mine.put_request; put_reply = h.mine.put_reply; put_code = h.mine.put_code; asked = h.mine.asked; replied = λ t. put; coded = h.mine.coded; size = h.mine.size; lawful = h.mine.lawful; stands = h.mine.stands; idle = h.mine.idle; clean = h.mine.clean; limit = λ t. agreed; sides = h.mine.sides };
  }

  -- with the open complete both sides are made anew, with the agreed limit
  pub sends_ocomp : Argued x y (record a { sent = also Ocomp a.sent; sending = agreed_size a.own a.own a.their; pulling = agreed_size a.their a.own a.their; copying = false }) b
  sends_ocomp = record {
    theirs = h.theirs;
    heard = h.heard;
    hears = h.hears;
    mine = record { put_request = h.mine.put_request; put_reply = h.mine.put_reply; put_code = h.mine.put_code; asked = h.mine.asked; replied = h.mine.replied; coded = h.mine.coded; size = h.mine.size; lawful = h.mine.lawful; stands = h.mine.stands; idle = λ t. refl; clean = h.mine.clean; limit = h.mine.limit; sides = λ t. (refl, refl) };
  }

  pub sends_creq : a.code_put ≡ true → Argued x y (record a { sent = also Creq a.sent }) b
  sends_creq put = record {
    theirs = h.theirs;
    heard = h.heard;
    hears = h.hears;
    mine = record { put_request = h.mine.put_request; put_reply = h.mine.put_reply; put_code = h.mine.put_code; asked = h.mine.asked; replied = h.mine.replied; coded = λ t. put; size = h.mine.size; lawful = h.mine.lawful; stands = h.mine.stands; idle = h.mine.idle; clean = h.mine.clean; limit = h.mine.limit; sides = h.mine.sides };
  }

  pub sends_crep : a.copying ≡ false → Argued x y (record a { sent = also Crep a.sent }) b
  sends_crep none = record {
    theirs = h.theirs;
    heard = h.heard;
    hears = h.hears;
    mine = record { put_request = h.mine.put_request; put_reply = h.mine.put_reply; put_code = h.mine.put_code; asked = h.mine.asked; replied = h.mine.replied; coded = h.mine.coded; size = h.mine.size; lawful = h.mine.lawful; stands = h.mine.stands; idle = λ t. none; clean = h.mine.clean; limit = h.mine.limit; sides = h.mine.sides };
  }

  -- the sizes of both sides once they are made anew: they may be asked for, and are those of the partner's sides, if it has made its own anew
  pub agreed_sizes : a.epoch ≡ b.epoch → a.sent.oreq ≡ true → a.got.oreq ≡ true → b.sent.oreq ≡ true → AreAgreed a b
  agreed_sizes even sent got asked = record {
    own = size_agreed a.own a.own a.their (h.mine.size sent) (lesser_first a.own.limit a.their.limit);
    their = size_agreed a.their a.own a.their (subst (λ (z : Size). IsRequestSize z.entries z.limit) (sym same) (h.theirs.size asked)) (lesser_second a.own.limit a.their.limit);
    fit = λ t g. (
        let s = h.theirs.sides t in
        let back : b.their ≡ a.own = h.heard.sizes even g in
        (s.1 ∙ ap (λ (z : Size). agreed_size z b.own b.their) back ∙ turned back a.own, s.0 ∙ ap (λ (z : Size). agreed_size z b.own b.their) (sym same) ∙ turned back a.their));
  } where
    same : a.their ≡ b.own
    same = h.hears.sizes (sym even) got

    turned : b.their ≡ a.own → (z : Size) → agreed_size z b.own b.their ≡ agreed_size z a.own a.their
    turned back z = let limit : lesser b.own.limit b.their.limit ≡ lesser a.own.limit a.their.limit = ap (λ (k : Size). lesser k.limit b.their.limit) (sym same) ∙ ap (λ (k : Size). lesser a.their.limit k.limit) back ∙ lesser_turned a.their.limit a.own.limit in λ i. record { entries = z.entries; limit = limit i }

  -- flags are handled, and their arguments with them: none is refused
  pub request_is : (w : ℕ) → a.request ≡ Some w → b.sent.oreq ≡ true → (size_in w ≡ b.own) × (is_request w ≡ true)
  request_is w e s =
      let k = h.hears.request w e in
      let v : w ≡ request_word b.own = k.1 ∙ h.theirs.put_request (request_word b.own) (h.theirs.asked s) in
      let z = size_back b.own (h.theirs.size s) in
      (ap (λ (n : ℕ). size_in n) v ∙ z.0, ap (λ (n : ℕ). is_request n) v ∙ z.1)

  pub code_is : (w : ℕ) → a.code ≡ Some w → b.sent.creq ≡ true → is_code w ≡ true
  code_is w e s =
      let k = h.theirs.put_code (h.theirs.coded s) in
      ap (λ (n : ℕ). is_code n) ((h.hears.code w e).1 ∙ k.1) ∙ code_back b.reason k.0

  pub gets_oreq : (z : Size) → z ≡ b.own → a.sent.orep ≡ false → a.sent.ocomp ≡ false → Argued x y (record a { got = also Oreq a.got; taken = without Oreq a.taken; request = None; their = z }) b
  gets_oreq z same unsent unopened = record {
    mine = record { put_request = h.mine.put_request; put_reply = h.mine.put_reply; put_code = h.mine.put_code; asked = h.mine.asked; replied = h.mine.replied; coded = h.mine.coded; size = h.mine.size; lawful = h.mine.lawful; stands = h.mine.stands; idle = h.mine.idle; clean = h.mine.clean; limit = λ t. absurd (cc); sides = λ t. absurd (cc) };
    theirs = h.theirs;
    heard = h.heard;
    hears = record { request = λ v e. absurd (cc); reply = h.hears.reply; code = h.hears.code; sizes = λ e g. same; reply_after = λ t. refl; complete_after = h.hears.complete_after };
  }

  pub gets_orep : a.got.oreq ≡ true → Argued x y (record a { got = also Orep a.got; taken = without Orep a.taken; reply = None }) b
  gets_orep after = record {
    mine = h.mine;
    theirs = h.theirs;
    heard = h.heard;
    hears = record { request = h.hears.request; reply = λ v e. absurd (cc); code = h.hears.code; sizes = h.hears.sizes; reply_after = λ t. after; complete_after = λ t. refl };
  }

  pub gets_ocomp : a.got.orep ≡ true → Argued x y (record a { got = also Ocomp a.got; taken = without Ocomp a.taken }) b
  gets_ocomp after = record {
    mine = h.mine;
    theirs = h.theirs;
    heard = h.heard;
    hears = record { request = h.hears.request; reply = h.hears.reply; code = h.hears.code; sizes = h.hears.sizes; reply_after = h.hears.reply_after; complete_after = λ t. after };
  }

  pub gets_creq : Argued x y (record a { got = also Creq a.got; taken = without Creq a.taken; code = None }) b
  gets_creq = record {
    mine = h.mine;
    theirs = h.theirs;
    heard = h.heard;
    hears = record { request = h.hears.request; reply = h.hears.reply; code = λ v e. absurd (cc); sizes = h.hears.sizes; reply_after = h.hears.reply_after; complete_after = h.hears.complete_after };
  }

  pub gets_crep : Argued x y (record a { got = also Crep a.got; taken = without Crep a.taken }) b
  gets_crep = record {
    mine = h.mine;
    theirs = h.theirs;
    heard = h.heard;
    hears = record { request = h.hears.request; reply = h.hears.reply; code = h.hears.code; sizes = h.hears.sizes; reply_after = h.hears.reply_after; complete_after = h.hears.complete_after };
  }

  -- the epoch is over
  pub ends_terms : (r : Option Size) → ((z : Size) → r ≡ Some z → a.registration ≡ Some z) → (a.epoch + 1 ≡ b.epoch → b.got.oreq ≡ true → ⊥) → Argued x y (record a { epoch = a.epoch + 1; sent = no_five; got = no_five; reason = None; registration = r; own = size_asked None; their = size_asked None; request_put = None; reply_put = false; code_put = false; copying = false }) b
  ends_terms r less none = record {
    theirs = h.theirs;
    heard = record { request = h.heard.request; reply = h.heard.reply; code = h.heard.code; sizes = λ e g. absurd (none e g); reply_after = h.heard.reply_after; complete_after = h.heard.complete_after };
    hears = record { request = h.hears.request; reply = h.hears.reply; code = h.hears.code; sizes = λ e g. absurd (cc); reply_after = λ t. absurd (cc); complete_after = λ t. absurd (cc) };
    mine = record {
      put_request = λ v e. absurd (cc);
      put_reply = λ t. absurd (cc);
      put_code = λ t. absurd (cc);
      asked = λ t. absurd (cc);
      replied = λ t. absurd (cc);
      coded = λ t. absurd (cc);
      size = λ t. absurd (cc);
      lawful = λ z e. h.mine.lawful z (less z e);
      stands = λ t. absurd (cc);
      idle = λ t. refl;
      clean = tt;
      limit = λ t. absurd (cc);
      sides = λ t. absurd (cc);
    };
  }

  -- arguments are stored before their flags: the partner has none of a flag that wasn't sent
  pub stores_request : (b.taken.oreq ≡ true → ⊥) → a.sent.oreq ≡ false → (v : ℕ) → Argued (record x { request = v }) y (record a { request_put = Some v }) b
  stores_request none unsent v = record {
    theirs = h.theirs;
    hears = h.hears;
    heard = record { request = λ w e. absurd (none (h.heard.request w e).0); reply = h.heard.reply; code = h.heard.code; sizes = h.heard.sizes; reply_after = h.heard.reply_after; complete_after = h.heard.complete_after };
    mine = record { put_request = λ w e. cc; put_reply = h.mine.put_reply; put_code = h.mine.put_code; asked = λ t. absurd (cc); replied = h.mine.replied; coded = h.mine.coded; size = h.mine.size; lawful = h.mine.lawful; stands = h.mine.stands; idle = h.mine.idle; clean = h.mine.clean; limit = h.mine.limit; sides = h.mine.sides };
  }

  pub stores_reply : Argued (record x { reply = true }) y (record a { reply_put = true }) b
  stores_reply = record {
    theirs = h.theirs;
    hears = h.hears;
    heard = record { request = h.heard.request; reply = h.heard.reply; code = h.heard.code; sizes = h.heard.sizes; reply_after = h.heard.reply_after; complete_after = h.heard.complete_after };
    mine = record { put_request = h.mine.put_request; put_reply = λ t. refl; put_code = h.mine.put_code; asked = h.mine.asked; replied = λ t. refl; coded = h.mine.coded; size = h.mine.size; lawful = h.mine.lawful; stands = h.mine.stands; idle = h.mine.idle; clean = h.mine.clean; limit = h.mine.limit; sides = h.mine.sides };
  }

  pub stores_code : (b.taken.creq ≡ true → ⊥) → is_some a.reason ≡ true → Argued (record x { code = code_of a.reason }) y (record a { code_put = true }) b
  stores_code none some = record {
    theirs = h.theirs;
    hears = h.hears;
    heard = record { request = h.heard.request; reply = h.heard.reply; code = λ w e. absurd (none (h.heard.code w e).0); sizes = h.heard.sizes; reply_after = h.heard.reply_after; complete_after = h.heard.complete_after };
    mine = record { put_request = h.mine.put_request; put_reply = h.mine.put_reply; put_code = λ t. (some, refl); asked = h.mine.asked; replied = h.mine.replied; coded = λ t. refl; size = h.mine.size; lawful = h.mine.lawful; stands = h.mine.stands; idle = h.mine.idle; clean = h.mine.clean; limit = h.mine.limit; sides = h.mine.sides };
  }

  -- an argument of a flag that is taken is loaded
  pub reads_request : a.taken.oreq ≡ true → Argued x y (record a { request = Some y.request }) b
  reads_request t = record {
    mine = h.mine;
    theirs = h.theirs;
    heard = h.heard;
    hears = record { request = λ v e. (t, cc); reply = h.hears.reply; code = h.hears.code; sizes = h.hears.sizes; reply_after = h.hears.reply_after; complete_after = h.hears.complete_after };
  }

  pub reads_reply : (w : ℕ) → a.taken.orep ≡ true → b.sent.orep ≡ true → Argued x y (record a { reply = Some (record { word = w; right = y.reply }) }) b
  reads_reply w t s = record {
    mine = h.mine;
    theirs = h.theirs;
    heard = h.heard;
    hears = record { request = h.hears.request; reply = λ v e. (t, right v e); code = h.hears.code; sizes = h.hears.sizes; reply_after = h.hears.reply_after; complete_after = h.hears.complete_after };
  } where
    right : (v : Replied) → Some (record { word = w; right = y.reply }) ≡ Some v → v.right ≡ true
    right v e = let k : record { word = w; right = y.reply } ≡ v = cc in ap (λ (z : Replied). z.right) (sym k) ∙ h.theirs.put_reply (h.theirs.replied s)

  pub reads_code : a.taken.creq ≡ true → Argued x y (record a { code = Some y.code }) b
  reads_code t = record {
    mine = h.mine;
    theirs = h.theirs;
    heard = h.heard;
    hears = record { request = h.hears.request; reply = h.hears.reply; code = λ v e. (t, cc); sizes = h.hears.sizes; reply_after = h.hears.reply_after; complete_after = h.hears.complete_after };
  }

  -- the channel is registered, where it isn't; and its registration is withdrawn
  pub registers_terms : (z : Size) → a.registration ≡ None → IsRequestSize z.entries z.limit → Argued x y (record a { registration = Some z }) b
  registers_terms z none size = record {
    theirs = h.theirs;
    heard = h.heard;
    hears = h.hears;
    mine = record { put_request = h.mine.put_request; put_reply = h.mine.put_reply; put_code = h.mine.put_code; asked = h.mine.asked; replied = h.mine.replied; coded = h.mine.coded; size = h.mine.size; lawful = λ v e. subst (λ (k : Size). IsRequestSize k.entries k.limit) (one z v e) size; stands = λ s e. (let k : None ≡ Some a.own = sym none ∙ h.mine.stands s e in absurd (cc)); idle = h.mine.idle; clean = h.mine.clean; limit = h.mine.limit; sides = h.mine.sides };
  } where
    one : (z v : Size) → Some z ≡ Some v → z ≡ v
    one z v e = cc

  pub unregisters_terms : (a.sent.oreq ≡ true → a.reason ≡ None → ⊥) → Argued x y (record a { registration = None }) b
  unregisters_terms free = record {
    theirs = h.theirs;
    heard = h.heard;
    hears = h.hears;
    mine = record { put_request = h.mine.put_request; put_reply = h.mine.put_reply; put_code = h.mine.put_code; asked = h.mine.asked; replied = h.mine.replied; coded = h.mine.coded; size = h.mine.size; lawful = λ v e. absurd (cc); stands = λ s e. absurd (free s e); idle = h.mine.idle; clean = h.mine.clean; limit = h.mine.limit; sides = h.mine.sides };
  }

  -- and is it when a contact is made, which knows the versions of both
  pub registered_terms : (new : Bool) (r : Option Size) → ((z : Size) → r ≡ Some z → IsRequestSize z.entries z.limit) → a.sent.oreq ≡ false → a.sent.orep ≡ false → Argued x y (record a { new = new; registration = r }) b
  registered_terms new r size unsent unreplied = record {
    theirs = h.theirs;
    heard = h.heard;
    hears = h.hears;
    mine = record { put_request = h.mine.put_request; put_reply = h.mine.put_reply; put_code = h.mine.put_code; asked = h.mine.asked; replied = h.mine.replied; coded = h.mine.coded; size = h.mine.size; lawful = size; stands = λ s e. absurd (cc); idle = h.mine.idle; clean = h.mine.clean; limit = λ t. absurd (cc); sides = h.mine.sides };
  }

  -- copies go on and end, until the close reply was sent
  pub copies_terms : (z : Bool) → a.sent.crep ≡ false → Argued x y (record a { copying = z }) b
  copies_terms z unsent = record {
    theirs = h.theirs;
    heard = h.heard;
    hears = h.hears;
    mine = record { put_request = h.mine.put_request; put_reply = h.mine.put_reply; put_code = h.mine.put_code; asked = h.mine.asked; replied = h.mine.replied; coded = h.mine.coded; size = h.mine.size; lawful = h.mine.lawful; stands = h.mine.stands; idle = λ t. absurd (cc); clean = h.mine.clean; limit = h.mine.limit; sides = h.mine.sides };
  }

  -- the registration is withdrawn, and the channel closes for it
  pub withdraws_terms : (r : Reason) → IsUnrefused (Some r) → a.reason ≡ None → Argued x y (record a { registration = None; reason = Some r; copying = false }) b
  withdraws_terms r clean none = record {
    theirs = h.theirs;
    heard = h.heard;
    hears = h.hears;
    mine = record {
      put_request = h.mine.put_request;
      put_reply = h.mine.put_reply;
      put_code = λ t. (let k = (h.mine.put_code t).0 in let f : is_some a.reason ≡ false = ap (λ (o : Option Reason). is_some o) none in absurd (cc));
      asked = h.mine.asked;
      replied = h.mine.replied;
      coded = h.mine.coded;
      size = h.mine.size;
      lawful = λ v e. absurd (cc);
      stands = λ s e. absurd (cc);
      idle = λ t. refl;
      clean = clean;
      limit = h.mine.limit;
      sides = h.mine.sides;
    };
  }
