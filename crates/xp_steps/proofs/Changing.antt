-- One of the partners was touched, and changed.
use Rattle.std.proofs.Common.{◌≡◌, ℕ, ◌<◌, ◌≢◌, true, false, true≢false, List, length, set, ap, sym, ◌∙◌, subst, Option}
use Rattle.xp_base.specs.declared.layout.TheConstants.{CHANNELS, PARTS}
use Rattle.xp_base.specs.Masks.{has}
use Rattle.xp_base.specs.declared.step.Answer.{Answer}
use Rattle.xp_base.specs.declared.step.CopyMark.{CopyMark}
use Rattle.xp_protocol.specs.declared.rule.LinkRule.{LinkRule}
use Rattle.xp_protocol.specs.declared.rule.PeerRule.{PeerRule}
use Rattle.xp_protocol.specs.Linking.{link_row}
use Rattle.xp_protocol.specs.Wanting.{mark_with}
use Rattle.xp_engage.specs.Partner.{unmarked}
use Rattle.xp_channel.specs.Planned.{rule_mark}
use Rattle.xp_partner.specs.Named.{AreNamed}
use Rattle.xp_partner.specs.Partner.{Partner, channel_of}
use Rattle.xp_partition.specs.Partners.{Partners, partner_at, LeavesUntouched}
use Rattle.xp_partition.proofs.Roomy.{same_at, other_at}
use Rattle.xp_steps.specs.declared.telling.OwnWord.{OwnWord}
use Rattle.xp_steps.specs.Changing.{ChangesOne, MayLink, IsLinkStepped, MayFollow, IsPeerStepped}
use Rattle.xp_steps.specs.Telling.{IsTold}

abbrev IsTouched : ℕ → Partners → Partners → Type 0
IsTouched q x t = (i : ℕ) → i < PARTS → i ≢ q → has t.touched i ≡ has x.touched i

untouched_by : (x t : Partners) (q : ℕ) (p : Partner) → t.list ≡ x.list → has t.touched q ≡ true → IsTouched q x t → LeavesUntouched x (record t { list = set t.list q p })
untouched_by x t q p e here others = record {
  same = λ i l f. other_at t.list q i p (apart i f) ∙ ap (λ (ys : List Partner). partner_at ys i) e;
  still = λ i l f. sym (others i l (apart i f)) ∙ f;
} where
  apart : (i : ℕ) → has t.touched i ≡ false → i ≢ q
  apart i f k = absurd (true≢false (sym here ∙ ap (has t.touched) (sym k) ∙ f))

pub changes_one : (x t : Partners) (q : ℕ) (p : Partner) → q < length x.list → t.list ≡ x.list → has t.touched q ≡ true → IsTouched q x t → ChangesOne q x (record t { list = set t.list q p })
changes_one x t q p l e here others = record {
  list =
      let k : q < length t.list = subst (λ (ys : List Partner). q < length ys) (sym e) l in
      ap (λ (z : Partner). set t.list q z) (sym (same_at t.list q p k)) ∙ ap (λ (ys : List Partner). set ys q (partner_at (set t.list q p) q)) e;
  untouched = untouched_by x t q p e here others;
}

-- what was found before it was touched, and what is found then
changed_by : (P : Partner → Partner → Type 0) (x t : Partners) (q : ℕ) (p : Partner) → q < length x.list → t.list ≡ x.list → P (partner_at t.list q) p → P (partner_at x.list q) (partner_at (set t.list q p) q)
changed_by P x t q p l e h =
    let k : q < length t.list = subst (λ (ys : List Partner). q < length ys) (sym e) l in
    subst (λ (ys : List Partner). P (partner_at ys q) (partner_at (set t.list q p) q)) e (subst (P (partner_at t.list q)) (sym (same_at t.list q p k)) h)

pub link_changed : (x t : Partners) (q c : ℕ) (m : LinkRule) (mark : Option CopyMark) (a : Answer) (p : Partner) → q < length x.list → t.list ≡ x.list → IsLinkStepped c m mark a (partner_at t.list q) p → IsLinkStepped c m mark a (partner_at x.list q) (partner_at (set t.list q p) q)
link_changed x t q c m mark a p l e h = changed_by (IsLinkStepped c m mark a) x t q p l e h

pub peer_changed : (x t : Partners) (q turn : ℕ) (m : PeerRule) (mark : Option CopyMark) (a : Answer) (p : Partner) → q < length x.list → t.list ≡ x.list → IsPeerStepped turn m mark a (partner_at t.list q) p → IsPeerStepped turn m mark a (partner_at x.list q) (partner_at (set t.list q p) q)
peer_changed x t q turn m mark a p l e h = changed_by (IsPeerStepped turn m mark a) x t q p l e h

pub told_changed : (x t : Partners) (q : ℕ) (word : OwnWord) (p : Partner) → q < length x.list → t.list ≡ x.list → IsTold word q (partner_at t.list q) p → IsTold word q (partner_at x.list q) (partner_at (set t.list q p) q)
told_changed x t q word p l e h = changed_by (IsTold word q) x t q p l e h

pub may_link_still : (x t : Partners) (q c : ℕ) (m : LinkRule) (mark : Option CopyMark) (a : Answer) → t.list ≡ x.list → MayLink c m mark a (partner_at x.list q) → MayLink c m mark a (partner_at t.list q)
may_link_still x t q c m mark a e h = subst (λ (ys : List Partner). MayLink c m mark a (partner_at ys q)) (sym e) h

pub may_follow_still : (x t : Partners) (q : ℕ) (m : PeerRule) → t.list ≡ x.list → MayFollow m (partner_at x.list q) → MayFollow m (partner_at t.list q)
may_follow_still x t q m e h = subst (λ (ys : List Partner). MayFollow m (partner_at ys q)) (sym e) h

pub ruleset changing = (changes_one, link_changed, peer_changed, told_changed, may_link_still, may_follow_still)

-- the mark of a step by the names of its channel
pub mark_named : (x : Partner) (c : ℕ) (m : LinkRule) (mark : Option CopyMark) → c < CHANNELS → AreNamed x.standing.own x.standing.partner x.channels
    → unmarked mark ≡ mark_with 0 (link_row x.standing.own x.standing.partner c (channel_of x c).end m).copy → unmarked mark ≡ rule_mark (channel_of x c) m
mark_named x c m mark l h e =
    let k = h.each c l in
    let ch = channel_of x c in
    e
    ∙ ap (λ (n : ℕ). mark_with 0 (link_row n x.standing.partner c ch.end m).copy) (sym k.own_number)
    ∙ ap (λ (n : ℕ). mark_with 0 (link_row ch.own n c ch.end m).copy) (sym k.partner_number)
    ∙ ap (λ (n : ℕ). mark_with 0 (link_row ch.own ch.partner n ch.end m).copy) (sym k.channel_number)

pub ruleset naming = (mark_named)
