-- The step that is wanted is the one that the definitions have, with the number of its copy.
use Rattle.std.proofs.Common.{◌≡◌, ℕ, ◌<◌, ◌≤◌, true, length, map, refl, ap, sym, ◌∙◌, subst, arith, Option, Some, None, ◌⊎◌, inl, inr}
use Rattle.std.specs.Prelude.{nat_lt}
use Rattle.std.proofs.lemmas.Bool.{cases_lt}
use Rattle.std.proofs.lemmas.Bool.Decides.{nat_tests}
use Rattle.std.proofs.lemmas.List.{length-map, get_or_past}
use Rattle.xp_base.specs.declared.step.CopyMark.{CopyMark}
use Rattle.xp_base.specs.declared.step.Wanted.{Wanted}
use Rattle.xp_script.specs.declared.part.ScenarioPart.{ScenarioPart}
use Rattle.xp_protocol.specs.declared.rule.LinkRule.{LinkRule}
use Rattle.xp_protocol.specs.declared.rule.PeerRule.{PeerRule}
use Rattle.xp_protocol.specs.declared.rule.Rule.{Rule}
use Rattle.xp_protocol.specs.declared.rule.Rule.TheVariants.{Link, Peer as ForPeer}
use Rattle.xp_protocol.specs.State.{State, Peer, End, Old, cold_peer, peer_of, end_of}
use Rattle.xp_protocol.specs.Linking.{link_row}
use Rattle.xp_protocol.specs.Peering.{peer_row}
use Rattle.xp_protocol.specs.Rules.{Can, going_of, going_in, peer_going, wanted_of}
use Rattle.xp_protocol.specs.Wanting.{wanted_at}
use Rattle.xp_plan.proofs.Choices.{some_is}
use Rattle.xp_discover.specs.declared.boot.BootStep.{BootStep}
use Rattle.xp_discover.specs.Booting.{boot_step, rule_for, IsBootOf}
use Rattle.xp_partner.specs.Partner.{Partner, peer_seen, channel_of, going_at}
use Rattle.xp_partition.specs.declared.keeping.Keeping.{Keeping}
use Rattle.xp_partition.specs.declared.life.Life.TheVariants as lives
use Rattle.xp_partition.specs.Life.{life_seen}
use Rattle.xp_partition.specs.Partners.{partner_at}
use Rattle.xp_partition.specs.Keeping.{state_of, IsKept}
use Rattle.xp_partition.proofs.Asking.{peer_is, end_is}
use Rattle.xp_partition.proofs.Booting.{boot_now, step_found, step_none}
use Rattle.xp_steps.specs.Counting.{numbered_by}
use Rattle.xp_steps.specs.Stepping.{CanStep}
use Rattle.xp_steps.proofs.Counts.{wanted_numbered, wanted_unmarked}
use Rattle.xp_steps.proofs.Allowed.{copies_low, link_partner, link_channel, link_known, link_within, link_allowed, link_room, link_counts, peer_partner, peer_known, peer_within, storable, not_halted, few}
use Rattle.xp_steps.proofs.OwnSteps.{not_read, not_zeroed, not_offline, not_written, few_partners, offline_asks, offline_low}

-- at an end
link_row_is : (x : Keeping) (q c : ℕ) (m : LinkRule) (w : Wanted) → CanStep x (Link q c m)
    → w ≡ wanted_at (partner_at x.partners.list q).standing.own (partner_at x.partners.list q).standing.partner (link_row (partner_at x.partners.list q).standing.own (partner_at x.partners.list q).standing.partner c (channel_of (partner_at x.partners.list q) c).end m)
    → w ≡ wanted_at x.part.part q (link_row x.part.part q c (end_of (state_of x) q c) m)
link_row_is x q c m w h e =
    let p = partner_at x.partners.list q in
    let k = h.kept.standing q (link_partner x q c m h) in
    e
    ∙ ap (λ (n : ℕ). wanted_at n p.standing.partner (link_row n p.standing.partner c (channel_of p c).end m)) k.own
    ∙ ap (λ (n : ℕ). wanted_at x.part.part n (link_row x.part.part n c (channel_of p c).end m)) k.partner
    ∙ ap (λ (y : End). wanted_at x.part.part q (link_row x.part.part q c y m)) (end_is x q c)

pub link_numbered : (x : Keeping) (q c : ℕ) (m : LinkRule) (p : Partner) (w : Wanted) (mark : CopyMark) (going : ℕ) → CanStep x (Link q c m) → p ≡ partner_at x.partners.list q
    → w ≡ wanted_at p.standing.own p.standing.partner (link_row p.standing.own p.standing.partner c (channel_of p c).end m)
    → w.mark ≡ Some mark → going ≡ going_of mark.kind (going_at p c)
    → record w { mark = Some (numbered_by mark going x.clock.copies) } ≡ wanted_of x.part (state_of x) (Link q c m)
link_numbered x q c m p w mark going h k e s g =
    ap (λ (n : ℕ). record w { mark = Some (numbered_by mark n x.clock.copies) })
    (g ∙ ap (λ (z : Partner). going_of mark.kind (going_at z c)) k ∙ ap (λ (z : Peer). going_of mark.kind (going_in z c)) (peer_is x q))
    ∙ wanted_numbered x.part (state_of x) (Link q c m) w mark
    (link_row_is x q c m w h (subst (λ (z : Partner). w ≡ wanted_at z.standing.own z.standing.partner (link_row z.standing.own z.standing.partner c (channel_of z c).end m)) k e)) s

pub link_unmarked : (x : Keeping) (q c : ℕ) (m : LinkRule) (w : Wanted) → CanStep x (Link q c m)
    → w ≡ wanted_at (partner_at x.partners.list q).standing.own (partner_at x.partners.list q).standing.partner (link_row (partner_at x.partners.list q).standing.own (partner_at x.partners.list q).standing.partner c (channel_of (partner_at x.partners.list q) c).end m)
    → w.mark ≡ None → w ≡ wanted_of x.part (state_of x) (Link q c m)
link_unmarked x q c m w h e s = wanted_unmarked x.part (state_of x) (Link q c m) w (link_row_is x q c m w h e) s

pub ruleset linking = (link_unmarked, link_allowed, link_room, link_counts, link_within, copies_low)

-- for a partner
peer_row_is : (x : Keeping) (q : ℕ) (m : PeerRule) (w : Wanted) → CanStep x (ForPeer q m)
    → w ≡ wanted_at (partner_at x.partners.list q).standing.own (partner_at x.partners.list q).standing.partner (peer_row (partner_at x.partners.list q).standing.own (partner_at x.partners.list q).standing.stamp (partner_at x.partners.list q).standing.partner (peer_seen (partner_at x.partners.list q)) m)
    → w ≡ wanted_at x.part.part q (peer_row x.part.part x.stamp q (peer_of (state_of x) q) m)
peer_row_is x q m w h e =
    let p = partner_at x.partners.list q in
    let k = h.kept.standing q (peer_partner x q m h) in
    e
    ∙ ap (λ (n : ℕ). wanted_at n p.standing.partner (peer_row n p.standing.stamp p.standing.partner (peer_seen p) m)) k.own
    ∙ ap (λ (n : ℕ). wanted_at x.part.part n (peer_row x.part.part p.standing.stamp n (peer_seen p) m)) k.partner
    ∙ ap (λ (n : ℕ). wanted_at x.part.part q (peer_row x.part.part n q (peer_seen p) m)) k.stamped
    ∙ ap (λ (y : Peer). wanted_at x.part.part q (peer_row x.part.part x.stamp q y m)) (peer_is x q)

pub peer_numbered : (x : Keeping) (q : ℕ) (m : PeerRule) (w : Wanted) (mark : CopyMark) (going : ℕ) → CanStep x (ForPeer q m)
    → w ≡ wanted_at (partner_at x.partners.list q).standing.own (partner_at x.partners.list q).standing.partner (peer_row (partner_at x.partners.list q).standing.own (partner_at x.partners.list q).standing.stamp (partner_at x.partners.list q).standing.partner (peer_seen (partner_at x.partners.list q)) m)
    → w.mark ≡ Some mark → going ≡ peer_going mark.kind (partner_at x.partners.list q).numbers
    → record w { mark = Some (numbered_by mark going x.clock.copies) } ≡ wanted_of x.part (state_of x) (ForPeer q m)
peer_numbered x q m w mark going h e s g =
    ap (λ (n : ℕ). record w { mark = Some (numbered_by mark n x.clock.copies) }) (g ∙ ap (λ (p : Peer). peer_going mark.kind p.numbers) (peer_is x q))
    ∙ wanted_numbered x.part (state_of x) (ForPeer q m) w mark (peer_row_is x q m w h e) s

pub peer_unmarked : (x : Keeping) (q : ℕ) (m : PeerRule) (w : Wanted) → CanStep x (ForPeer q m)
    → w ≡ wanted_at (partner_at x.partners.list q).standing.own (partner_at x.partners.list q).standing.partner (peer_row (partner_at x.partners.list q).standing.own (partner_at x.partners.list q).standing.stamp (partner_at x.partners.list q).standing.partner (peer_seen (partner_at x.partners.list q)) m)
    → w.mark ≡ None → w ≡ wanted_of x.part (state_of x) (ForPeer q m)
peer_unmarked x q m w h e s = wanted_unmarked x.part (state_of x) (ForPeer q m) w (peer_row_is x q m w h e) s

pub ruleset peering = (peer_numbered, peer_unmarked, storable, peer_within, copies_low)

-- in a boot it is the one that comes next
pub record Next (x : Keeping) (rule : Rule) : Type 0 where
  pub step : BootStep
  pub comes : boot_step x.boot ≡ Some step
  pub ruled : rule_for step ≡ rule

pub next_of : (x : Keeping) (rule : Rule) → CanStep x rule → x.life ≡ lives.Booting → Next x rule
next_of x rule h l = by (boot_step x.boot) refl where
  by : (o : Option BootStep) → boot_step x.boot ≡ o → Next x rule
  by None e = let f = step_none x h.kept l e ∙ h.boot (ap life_seen l) in absurd (cc)
  by (Some m) e = record { step = m; comes = e; ruled = some_is (rule_for m) rule (step_found x m h.kept l e ∙ h.boot (ap life_seen l)) }

lt_is : (a b : ℕ) → a < b → nat_lt a b ≡ true
lt_is a b h = grind (arith, nat_tests)

past_peer : (x : Keeping) (q : ℕ) → length x.partners.list ≤ q → peer_of (state_of x) q ≡ cold_peer Old
past_peer x q l = get_or_past (map peer_seen x.partners.list) q (cold_peer Old) (subst (λ (n : ℕ). n ≤ q) (sym (length-map x.partners.list peer_seen)) l)

pub boot_of : (x : Keeping) → IsKept x → x.life ≡ lives.Booting → IsBootOf x.boot x.part (state_of x)
boot_of x k l =
    let b = k.boot l in
    record {
      part = sym k.own;
      count = sym k.partitions;
      partners = length-map x.partners.list peer_seen ∙ k.count ∙ sym k.partitions;
      life = ap life_seen l;
      boot = boot_now x l;
      zeroed = λ q low other. by q (λ (p : Peer). p.engage.zeroed ≡ true) refl
          (λ j. ap (λ (p : Peer). p.engage.zeroed) (sym (peer_is x q)) ∙ b.zeroed q j (λ e. other (e ∙ sym k.own)) ∙ lt_is q x.boot.zeroed low) (cases_lt q (length x.partners.list));
      cleared = λ q low other. by q (λ (p : Peer). p.engage.cleared ≡ true) refl
          (λ j. ap (λ (p : Peer). p.engage.cleared) (sym (peer_is x q)) ∙ b.cleared q j (λ e. other (e ∙ sym k.own)) ∙ lt_is q x.boot.cleared low) (cases_lt q (length x.partners.list));
    } where
      by : (q : ℕ) (P : Peer → Type 0) → P (cold_peer Old) → (q < x.part.count → P (peer_of (state_of x) q)) → (q < length x.partners.list) ⊎ (length x.partners.list ≤ q) → P (peer_of (state_of x) q)
      by q P cold here (inl j) = here (subst (λ (n : ℕ). q < n) k.count j)
      by q P cold here (inr j) = subst P (sym (past_peer x q j)) cold

abbrev pub Permits : Keeping → Option Wanted → Type 0
Permits x o = (s : ScenarioPart) (st : State) (m : BootStep) → IsBootOf x.boot s st → boot_step x.boot ≡ Some m → Can s st (rule_for m) × (o ≡ Some (wanted_of s st (rule_for m)))

boot_wanted : (x : Keeping) (rule : Rule) (o : Option Wanted) → CanStep x rule → x.life ≡ lives.Booting → Permits x o → o ≡ Some (wanted_of x.part (state_of x) rule)
boot_wanted x rule o h l permits =
    let n = next_of x rule h l in
    (permits x.part (state_of x) n.step (boot_of x h.kept l) n.comes).1 ∙ ap (λ (r : Rule). Some (wanted_of x.part (state_of x) r)) n.ruled

pub boot_some : (x : Keeping) (rule : Rule) (o : Option Wanted) (w : Wanted) → CanStep x rule → x.life ≡ lives.Booting → Permits x o → o ≡ Some w → w ≡ wanted_of x.part (state_of x) rule
boot_some x rule o w h l permits e = some_is w (wanted_of x.part (state_of x) rule) (sym e ∙ boot_wanted x rule o h l permits)

pub boot_none : (x : Keeping) (rule : Rule) (o : Option Wanted) → CanStep x rule → x.life ≡ lives.Booting → Permits x o → o ≡ None → ⊥
boot_none x rule o h l permits e = let f = sym e ∙ boot_wanted x rule o h l permits in absurd (cc)

pub ruleset booting = (boot_some, boot_none)

pub ruleset owning = (not_read, not_zeroed, not_offline, not_written, few_partners, offline_asks, offline_low)

pub ruleset wanting = (not_halted, link_known, link_channel, peer_known)
