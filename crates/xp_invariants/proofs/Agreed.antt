-- Two ends in one epoch, each of which has sent its open complete, have one limit: that on which both agree.
use Rattle.std.proofs.Common.{◌≡◌, ℕ, ◌≤◌, Bool, true, false, List, refl, ap, sym, ◌∙◌, subst, arith, Some, None}
use Rattle.std.specs.Prelude.{if◌then◌else◌, nat_eq, is_some}
use Rattle.std.proofs.lemmas.Bool.{eqb-true}
use Rattle.std.proofs.lemmas.Bool.Decides.{nat_tests}
use Rattle.xp_base.specs.declared.session.Session.{Session}
use Rattle.xp_base.specs.Entries.{lines}
use Rattle.xp_protocol.specs.Linking.{agreed_by, agreed}
use Rattle.xp_protocol.specs.Parts.{IsRequestSize}
use Rattle.xp_protocol.specs.Promised.{size_sent, size_got}
use Rattle.xp_protocol.specs.Pulling.{lesser}
use Rattle.xp_protocol.specs.Records.{Recorded}
use Rattle.xp_protocol.specs.State.{End, Size}
use Rattle.xp_promises.proofs.Arguments.{agreed_size, size_agreed, lesser_turned}
use Rattle.xp_promises.proofs.Lines.{Area, Line, view}
use Rattle.xp_promises.proofs.Rests.{out_size, in_size}
use Rattle.xp_invariants.specs.Limits.{HaveOneLimit}

no_more : (a b : ℕ) → lesser a b ≤ a
no_more a b = grind (arith, nat_tests)

same_limits : (new : Bool) (a b : ℕ) → is_some (agreed_by new a b) ≡ true → new ≡ false → a ≡ b
same_limits true a b h f = absurd (cc)
same_limits false a b h f = eqb-true a b (by (nat_eq a b) h) where
  by : (z : Bool) → is_some (if z then Some (lesser a b) else None) ≡ true → z ≡ true
  by true h = refl
  by false h = absurd (cc)

module _ (u v : Session) (x y : Area) (rs ss : List Recorded) (e g : End) (line : Line u v x y rs ss (view e) (view g)) where
  -- in one epoch an end knows the size that its partner asks for, once it has handled the open request
  pub known_size : e.epoch ≡ g.epoch → g.shake.got.open_request ≡ true → size_got g ≡ size_sent e
  known_size even got = line.argued.heard.sizes even got

  pub their_size : e.epoch ≡ g.epoch → e.shake.got.open_request ≡ true → size_got e ≡ size_sent g
  their_size even got = line.argued.hears.sizes (sym even) got

  -- an open reply is sent where a limit is agreed
  pub has_agreed : e.shake.sent.open_reply ≡ true → is_some (agreed e.shake) ≡ true
  has_agreed replied = let both = line.flags.fit_a.orep replied in rw (both.0, both.1) (line.argued.mine.limit replied)

  module _ (even : e.epoch ≡ g.epoch) (own : e.shake.sent.open_complete ≡ true) (theirs : g.shake.sent.open_complete ≡ true) where
    abbrev mine : Size
    mine = size_sent e

    abbrev other : Size
    other = size_sent g

    replied : e.shake.sent.open_reply ≡ true
    replied = (line.flags.fit_a.ocomp own).0

    their_replied : g.shake.sent.open_reply ≡ true
    their_replied = (line.flags.fit_b.ocomp theirs).0

    got : size_got e ≡ other
    got = their_size even (line.flags.fit_a.orep replied).1

    their_got : size_got g ≡ mine
    their_got = known_size even (line.flags.fit_b.orep their_replied).1

    sending : out_size e.sides.send ≡ agreed_size mine mine other
    sending = (line.argued.mine.sides own).0 ∙ ap (λ (z : Size). agreed_size mine mine z) got

    pulling : in_size e.sides.pull ≡ agreed_size other mine other
    pulling = (line.argued.mine.sides own).1 ∙ ap (λ (z : Size). agreed_size z mine z) got

    their_sending : out_size g.sides.send ≡ agreed_size other other mine
    their_sending = (line.argued.theirs.sides theirs).0 ∙ ap (λ (z : Size). agreed_size other other z) their_got

    their_pulling : in_size g.sides.pull ≡ agreed_size mine other mine
    their_pulling = (line.argued.theirs.sides theirs).1 ∙ ap (λ (z : Size). agreed_size z other z) their_got

    limit : e.sides.send.limit ≡ lesser mine.limit other.limit
    limit = ap (λ (z : Size). z.limit) sending

    their_limit : g.sides.send.limit ≡ lesser mine.limit other.limit
    their_limit = ap (λ (z : Size). z.limit) their_sending ∙ lesser_turned other.limit mine.limit

    read_limit : g.sides.pull.limit ≡ lesser mine.limit other.limit
    read_limit = ap (λ (z : Size). z.limit) their_pulling ∙ lesser_turned other.limit mine.limit

    pub one_limit : HaveOneLimit e g
    one_limit = record {
      own = limit ∙ sym (ap (λ (z : Size). z.limit) pulling);
      theirs = their_limit ∙ sym limit;
      read = read_limit ∙ sym limit;
      lines = ap lines (their_limit ∙ sym limit);
      queue = ap (λ (z : Size). z.entries) their_pulling ∙ sym (ap (λ (z : Size). z.entries) sending);
      their_queue = ap (λ (z : Size). z.entries) pulling ∙ sym (ap (λ (z : Size). z.entries) their_sending);
      size = subst (λ (z : Size). IsRequestSize z.entries z.limit) (sym sending) (size_agreed mine mine other (line.argued.mine.size (line.flags.fit_a.orep replied).0) (no_more mine.limit other.limit));
      asked = ap (λ (z : Size). z.entries) sending;
      limit = limit;
      equal = λ old. same_limits e.shake.both_new mine.limit (size_got e).limit (line.argued.mine.limit replied) old ∙ ap (λ (z : Size). z.limit) got;
    }
