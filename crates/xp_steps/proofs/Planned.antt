-- What a step needs beside the leave of the rules holds of a planned one.
use Rattle.std.proofs.Common.{◌≡◌, ℕ, ◌-◌, ◌<◌, ◌^◌, Bool, true, false, refl, ap, sym, ◌∙◌, subst, Option, Some, None, ◌⊎◌, inl, inr}
use Rattle.std.specs.Prelude.{◌&&◌, if◌then◌else◌, nat_lt}
use Rattle.std.proofs.lemmas.Bool.{and_parts}
use Rattle.xp_rounds.specs.declared.rounds.Place.{Place}
use Rattle.xp_rounds.specs.declared.rounds.Place.TheVariants.{Own as OwnPlace, Partner as PartnerPlace}
use Rattle.xp_rounds.specs.Ring.{place_at}
use Rattle.xp_rounds.specs.Visit.{Visit, planned}
use Rattle.xp_rounds.proofs.Asked.{planned_asks}
use Rattle.xp_script.specs.declared.command.Command.{Command}
use Rattle.xp_script.specs.declared.part.ScenarioPart.{ScenarioPart}
use Rattle.xp_protocol.specs.declared.contact.PartnerState.{PartnerState}
use Rattle.xp_protocol.specs.declared.contact.PartnerState.TheVariants as states
use Rattle.xp_protocol.specs.declared.rule.AreaWord.{AreaWord}
use Rattle.xp_protocol.specs.declared.rule.LinkRule.{LinkRule}
use Rattle.xp_protocol.specs.declared.rule.PeerRule.{PeerRule}
use Rattle.xp_protocol.specs.declared.rule.PeerRule.TheVariants.{AskActivation, TakeFlags, CloseArea, ZeroMagic, ClearOldBit, Prepare, OpenArea, SetEngagementBit, ReadRecord, StoreEcho, StoreSecond, ClearEngagementBit, LookAtPage, CheckBeat, ClearDeactivationBit, TellPartner}
use Rattle.xp_protocol.specs.declared.rule.Rule.{Rule}
use Rattle.xp_protocol.specs.declared.rule.Rule.TheVariants.{Link, Peer as ForPeer, Own}
use Rattle.xp_protocol.specs.State.{State, Peer, Engage, Area, Old, Off, Ready, Leaving, Life, Booting, Up, Halted, peer_of}
use Rattle.xp_protocol.specs.Peering.{Here, is_off, is_prepared}
use Rattle.xp_protocol.specs.Rules.{Can, here_of}
use Rattle.xp_protocol.specs.Acts.{current, EndName, named_end}
use Rattle.xp_plan.specs.declared.errand.Errand.{Errand}
use Rattle.xp_plan.specs.declared.errand.Errand.TheVariants as errands
use Rattle.xp_plan.specs.EndSteps.{step_if}
use Rattle.xp_plan.specs.PeerSteps.{look_at, prepare_at, prepare_by, prepare_free, open_step, word_missing, engage_at, engage_by, answer_at, echo_step, record_at, leave_at, leave_by, leave_bit, for_peer, boot_at}
use Rattle.xp_plan.specs.Plan.{plan_of, asked, ask_by, ask_own, ask_partner, ask_booting, link_asked, link_rule, command_at, command_asked, script_asked, is_joined, IsErrand, IsVisit}
use Rattle.xp_plan.proofs.Choices.{lt_is, some_is}
use Rattle.xp_plan.proofs.Permits.{given}
use Rattle.xp_steps.specs.Stepping.{HasSession}

-- what an errand asks for
asked_is : (o : Option Rule) (r : Rule) → asked o ≡ Some (Some r) → o ≡ Some r
asked_is None r e = absurd (cc)
asked_is (Some x) r e = cc

-- which steps prepare no memory
not_step : {R : Type 0} (P : Type 0) (b : Bool) (m r : R) → (m ≡ r → P) → step_if b m ≡ Some r → P
not_step P true m r f e = f (some_is m r e)
not_step P false m r f e = absurd (cc)

module _ (P : Type 0) (q : ℕ) (w : AreaWord) where
  abbrev Never : Option PeerRule → Type 0
  Never o = o ≡ Some (Prepare w) → P

  never_look : (used : ℕ) (p : Peer) → Never (look_at used p)
  never_look used p e = not_step P _ LookAtPage (Prepare w) (λ f. absurd (cc)) e

  never_engaged : (state : PartnerState) (wanted waited : Bool) → Never (engage_by state wanted waited)
  never_engaged states.Inactive wanted waited e = not_step P wanted AskActivation (Prepare w) (λ f. absurd (cc)) e
  never_engaged states.Requested wanted waited e = not_step P waited SetEngagementBit (Prepare w) (λ f. absurd (cc)) e
  never_engaged states.Activating wanted waited e = absurd (cc)
  never_engaged states.Active wanted waited e = absurd (cc)
  never_engaged states.Deactivating wanted waited e = absurd (cc)

  never_if : (b : Bool) (o : Option PeerRule) → Never o → Never (if b then o else None)
  never_if true o f e = f e
  never_if false o f e = absurd (cc)

  never_either : (b : Bool) (o u : Option PeerRule) → Never o → Never u → Never (if b then o else u)
  never_either true o u f g e = f e
  never_either false o u f g e = g e

  never_answer : (p : Peer) → Never (answer_at p)
  never_answer p = never_if _ _ (never_either _ (Some ClearEngagementBit) (echo_step p.engage) (λ e. absurd (cc))
      (never_either _ _ _ (not_step P _ StoreSecond (Prepare w) (λ f. absurd (cc))) (not_step P _ StoreEcho (Prepare w) (λ f. absurd (cc)))))

  never_leave : (area : Area) (p : Peer) → Never (leave_by area p)
  never_leave Old p e = absurd (cc)
  never_leave Off p e = absurd (cc)
  never_leave Ready p e = not_step P _ CloseArea (Prepare w) (λ f. absurd (cc)) e
  never_leave Leaving p e = never_if p.engage.bit (leave_bit p) (never_either p.engage.told _ (Some TellPartner) (not_step P _ ClearEngagementBit (Prepare w) (λ f. absurd (cc))) (λ f. absurd (cc))) e

  never_for : (k : ℕ) (o : Option PeerRule) → Never o → for_peer k o ≡ Some (ForPeer q (Prepare w)) → P
  never_for k None f e = absurd (cc)
  never_for k (Some m) f e = f (cc)

  never_link : (b : Bool) (k c : ℕ) (o : Option LinkRule) → (if b then link_rule k c o else None) ≡ Some (ForPeer q (Prepare w)) → P
  never_link true k c None e = absurd (cc)
  never_link true k c (Some m) e = absurd (cc)
  never_link false k c o e = absurd (cc)

  never_command : (s : ScenarioPart) (st : State) (used : ℕ) (x : Command) (o : Option EndName) → command_at s st used x o ≡ Some (ForPeer q (Prepare w)) → P
  never_command s st used x None e = not_step P _ _ _ (λ f. absurd (cc)) e
  never_command s st used x (Some n) e = never_link (is_joined (peer_of st n.partner)) n.partner n.channel _ e

  never_current : (s : ScenarioPart) (st : State) (used : ℕ) (o : Option Command) → command_asked s st used o ≡ Some (ForPeer q (Prepare w)) → P
  never_current s st used None e = absurd (cc)
  never_current s st used (Some x) e = never_command s st used x (named_end x) e

  never_script : (s : ScenarioPart) (st : State) (used : ℕ) (b : Bool) → (if b then command_asked s st used (current s st) else None) ≡ Some (ForPeer q (Prepare w)) → P
  never_script s st used true e = never_current s st used (current s st) e
  never_script s st used false e = absurd (cc)

  never_own : (s : ScenarioPart) (x : Errand) (used : ℕ) (st : State) → ask_own s x used st ≡ Some (ForPeer q (Prepare w)) → P
  never_own s errands.Beat used st e = not_step P _ _ _ (λ f. absurd (cc)) e
  never_own s errands.Mask used st e = not_step P _ _ _ (λ f. absurd (cc)) e
  never_own s errands.Activations used st e = absurd (cc)
  never_own s errands.Deactivations used st e = absurd (cc)
  never_own s errands.Engagements used st e = not_step P _ _ _ (λ f. absurd (cc)) e
  never_own s errands.Script used st e = never_script s st used st.script.doing e
  never_own s errands.Boot used st e = absurd (cc)
  never_own s errands.Look used st e = absurd (cc)
  never_own s errands.Prepare used st e = absurd (cc)
  never_own s errands.Engage used st e = absurd (cc)
  never_own s errands.Answer used st e = absurd (cc)
  never_own s errands.Record used st e = absurd (cc)
  never_own s errands.Flags used st e = absurd (cc)
  never_own s errands.Check used st e = absurd (cc)
  never_own s (errands.Signal c) used st e = absurd (cc)
  never_own s (errands.Counters c) used st e = absurd (cc)
  never_own s errands.Bulk used st e = absurd (cc)
  never_own s errands.Leave used st e = absurd (cc)

-- and the one that does, where a session is left
abbrev IsLeft : State → ℕ → Type 0
IsLeft st q = (peer_of st q).engage.count < 2 ^ 32 - 1

word_by : (o : Option AreaWord) (masked : Bool) (k q : ℕ) (w : AreaWord) (x : Engage) → prepare_by o masked k x ≡ Some (ForPeer q (Prepare w)) → k ≡ q
word_by (Some v) masked k q w x e = cc
word_by None masked k q w x e = not_step (k ≡ q) (is_prepared x) (open_step masked k) (ForPeer q (Prepare w)) (λ f. opening masked f) e where
  opening : (b : Bool) → open_step b k ≡ ForPeer q (Prepare w) → k ≡ q
  opening true f = absurd (cc)
  opening false f = absurd (cc)

word_for : (b masked : Bool) (k q : ℕ) (w : AreaWord) (x : Engage) → (if b then prepare_by (word_missing x) masked k x else Some (ForPeer k ClearDeactivationBit)) ≡ Some (ForPeer q (Prepare w)) → k ≡ q
word_for true masked k q w x e = word_by (word_missing x) masked k q w x e
word_for false masked k q w x e = absurd (cc)

prepared : (st : State) (masked : Bool) (k q : ℕ) (w : AreaWord) → prepare_at masked k (peer_of st k) ≡ Some (ForPeer q (Prepare w)) → IsLeft st q
prepared st masked k q w e = by (is_off (peer_of st k).engage.area && ((peer_of st k).wanted && nat_lt (peer_of st k).engage.count 4294967295)) refl e where
  by : (b : Bool) → (is_off (peer_of st k).engage.area && ((peer_of st k).wanted && nat_lt (peer_of st k).engage.count 4294967295)) ≡ b → (if b then prepare_free masked k (peer_of st k).engage else None) ≡ Some (ForPeer q (Prepare w)) → IsLeft st q
  by true h f =
      let a = and_parts (is_off (peer_of st k).engage.area) _ h in
      let b = and_parts (peer_of st k).wanted _ a.1 in
      subst (IsLeft st) (word_for (peer_of st k).engage.deactivation_cleared masked k q w (peer_of st k).engage f) (lt_is (peer_of st k).engage.count 4294967295 b.1)
  by false h f = absurd (cc)

partner_left : (s : ScenarioPart) (k : ℕ) (x : Errand) (used : ℕ) (st : State) (q : ℕ) (w : AreaWord) → ask_partner s k x used st ≡ Some (ForPeer q (Prepare w)) → IsLeft st q
partner_left s k errands.Look used st q w e = never_for (IsLeft st q) q w k _ (never_look (IsLeft st q) q w used (peer_of st k)) e
partner_left s k errands.Prepare used st q w e = prepared st (here_of s st k).masked k q w e
partner_left s k errands.Engage used st q w e = never_for (IsLeft st q) q w k _ (never_if (IsLeft st q) q w _ _ (never_engaged (IsLeft st q) q w (peer_of st k).engage.state _ _)) e
partner_left s k errands.Answer used st q w e = never_for (IsLeft st q) q w k _ (never_answer (IsLeft st q) q w (peer_of st k)) e
partner_left s k errands.Record used st q w e = never_for (IsLeft st q) q w k _ (λ f. not_step (IsLeft st q) _ ReadRecord (Prepare w) (λ g. absurd (cc)) f) e
partner_left s k errands.Flags used st q w e = never_for (IsLeft st q) q w k _ (λ f. not_step (IsLeft st q) _ TakeFlags (Prepare w) (λ g. absurd (cc)) f) e
partner_left s k errands.Check used st q w e = never_for (IsLeft st q) q w k _ (λ f. not_step (IsLeft st q) _ CheckBeat (Prepare w) (λ g. absurd (cc)) f) e
partner_left s k (errands.Signal c) used st q w e = never_link (IsLeft st q) q w (is_joined (peer_of st k)) k c _ e
partner_left s k (errands.Counters c) used st q w e = never_link (IsLeft st q) q w (is_joined (peer_of st k)) k c _ e
partner_left s k errands.Bulk used st q w e = never_script (IsLeft st q) q w s st used st.script.doing e
partner_left s k errands.Leave used st q w e = never_for (IsLeft st q) q w k _ (never_leave (IsLeft st q) q w (peer_of st k).engage.area (peer_of st k)) e
partner_left s k errands.Boot used st q w e = absurd (cc)
partner_left s k errands.Beat used st q w e = absurd (cc)
partner_left s k errands.Mask used st q w e = absurd (cc)
partner_left s k errands.Activations used st q w e = absurd (cc)
partner_left s k errands.Deactivations used st q w e = absurd (cc)
partner_left s k errands.Engagements used st q w e = absurd (cc)
partner_left s k errands.Script used st q w e = absurd (cc)

place_left : (s : ScenarioPart) (place : Place) (x : Errand) (used : ℕ) (st : State) (q : ℕ) (w : AreaWord) → ask_by Up s place x used st ≡ Some (ForPeer q (Prepare w)) → IsLeft st q
place_left s OwnPlace x used st q w e = never_own (IsLeft st q) q w s x used st e
place_left s (PartnerPlace k) x used st q w e = partner_left s k x used st q w e

-- of whatever rule
left_for : (s : ScenarioPart) (place : Place) (x : Errand) (used : ℕ) (st : State) (m : PeerRule) (q : ℕ) → Can s st (ForPeer q m) → ask_by st.life s place x used st ≡ Some (ForPeer q m) → HasSession st (ForPeer q m)
left_for s place x used st (Prepare w) q can e = place_left s place x used st q w (ap (λ (l : Life). ask_by l s place x used st) (sym can.0) ∙ e)
left_for s place x used st AskActivation q can e = tt
left_for s place x used st TakeFlags q can e = tt
left_for s place x used st CloseArea q can e = tt
left_for s place x used st ZeroMagic q can e = tt
left_for s place x used st ClearOldBit q can e = tt
left_for s place x used st OpenArea q can e = tt
left_for s place x used st SetEngagementBit q can e = tt
left_for s place x used st ReadRecord q can e = tt
left_for s place x used st StoreEcho q can e = tt
left_for s place x used st StoreSecond q can e = tt
left_for s place x used st ClearEngagementBit q can e = tt
left_for s place x used st LookAtPage q can e = tt
left_for s place x used st CheckBeat q can e = tt
left_for s place x used st ClearDeactivationBit q can e = tt
left_for s place x used st TellPartner q can e = tt

session_for : (s : ScenarioPart) (place : Place) (x : Errand) (used : ℕ) (st : State) (r : Rule) → Can s st r → ask_by st.life s place x used st ≡ Some r → HasSession st r
session_for s place x used st (Link q c m) can e = tt
session_for s place x used st (ForPeer q m) can e = left_for s place x used st m q can e
session_for s place x used st (Own m) can e = tt

pub planned_session : (s : ScenarioPart) (st : State) (v : Visit Errand) → IsVisit s v → (rule : Rule) → (planned (plan_of s) v st).rule ≡ Some rule → Can s st rule → HasSession st rule
planned_session s st v is rule e can =
    let a = planned_asks (plan_of s) IsErrand (given s) v st rule is.ring is.errands e in
    session_for s (place_at s.part a.place) a.errand a.used st rule can (asked_is _ rule a.asks)

boots : (s : ScenarioPart) (x : Errand) (st : State) (r : Rule) → ask_booting s x st ≡ Some r → boot_at s.part st ≡ Some r
boots s errands.Boot st r e = e
boots s errands.Beat st r e = absurd (cc)
boots s errands.Mask st r e = absurd (cc)
boots s errands.Activations st r e = absurd (cc)
boots s errands.Deactivations st r e = absurd (cc)
boots s errands.Engagements st r e = absurd (cc)
boots s errands.Look st r e = absurd (cc)
boots s errands.Prepare st r e = absurd (cc)
boots s errands.Engage st r e = absurd (cc)
boots s errands.Answer st r e = absurd (cc)
boots s errands.Record st r e = absurd (cc)
boots s errands.Flags st r e = absurd (cc)
boots s errands.Check st r e = absurd (cc)
boots s (errands.Signal c) st r e = absurd (cc)
boots s (errands.Counters c) st r e = absurd (cc)
boots s errands.Bulk st r e = absurd (cc)
boots s errands.Leave st r e = absurd (cc)
boots s errands.Script st r e = absurd (cc)

pub planned_boot : (s : ScenarioPart) (st : State) (v : Visit Errand) → IsVisit s v → (rule : Rule) → (planned (plan_of s) v st).rule ≡ Some rule → st.life ≡ Booting → boot_at s.part st ≡ Some rule
planned_boot s st v is rule e l =
    let a = planned_asks (plan_of s) IsErrand (given s) v st rule is.ring is.errands e in
    boots s a.errand st rule (ap (λ (k : Life). ask_by k s (place_at s.part a.place) a.errand a.used st) (sym l) ∙ asked_is _ rule a.asks)
