-- Each planned step is permitted.
use Rattle.std.proofs.Common.{◌≡◌, ℕ, zero, suc, ◌+◌, ◌-◌, ◌<◌, ◌≤◌, Bool, true, false, ◌&&◌, refl, sym, ◌∙◌, subst, arith, ◌⊎◌, inl, inr, Option, Some, None, List, [], ◌∷◌, length}
use Rattle.std.specs.Prelude.{if◌then◌else◌, not, is_some, nat_lt, nat_eq}
use Rattle.std.specs.List.{AllByRecursion}
use Rattle.std.proofs.lemmas.Bool.{and_parts}
use Rattle.std.proofs.lemmas.Bool.Decides.{nat_tests}
use Rattle.xp_rounds.specs.declared.rounds.Place.{Place}
use Rattle.xp_rounds.specs.declared.rounds.Place.TheVariants.{Own as OwnPlace, Partner as PartnerPlace}
use Rattle.xp_rounds.specs.Ring.{place_at}
use Rattle.xp_rounds.specs.Visit.{Visit, planned}
use Rattle.xp_rounds.proofs.Asked.{planned_asks}
use Rattle.xp_script.specs.declared.command.Command.{Command}
use Rattle.xp_script.specs.declared.command.Command.TheVariants as commands
use Rattle.xp_script.specs.declared.part.ScenarioPart.{ScenarioPart}
use Rattle.xp_base.specs.declared.layout.TheConstants.{CHANNELS}
use Rattle.xp_protocol.specs.declared.rule.AreaWord.{AreaWord}
use Rattle.xp_protocol.specs.declared.rule.LinkRule.{LinkRule}
use Rattle.xp_protocol.specs.declared.rule.PeerRule.{PeerRule}
use Rattle.xp_protocol.specs.declared.rule.PeerRule.TheVariants.{TakeFlags, ZeroMagic, ClearOldBit, Prepare, ClearDeactivationBit}
use Rattle.xp_protocol.specs.declared.rule.OwnRule.TheVariants.{ReadEngaged, TakeActivation, TakeDeactivation, ReadStamp, ZeroMask, ZeroOffline, WriteStamp, StoreMask, StoreBeat, StoreOffline}
use Rattle.xp_protocol.specs.declared.rule.Rule.{Rule}
use Rattle.xp_protocol.specs.declared.rule.Rule.TheVariants.{Link, Peer as ForPeer, Own}
use Rattle.xp_protocol.specs.Parts.{IsLawfulPart, IsEndOf}
use Rattle.xp_protocol.specs.State.{State, Life, Booting, Up, Halted, Engage, Peer, Off, peer_of, peer_at, end_of}
use Rattle.xp_protocol.specs.Peering.{is_prepared, is_off}
use Rattle.xp_protocol.specs.Linking.{link_can}
use Rattle.xp_protocol.specs.Rules.{Can, IsUsable, IsPartner, here_of, offline_asked}
use Rattle.xp_protocol.specs.Acts.{current, named_end}
use Rattle.xp_protocol.specs.Parts.{IsLawfulCommand}
use Rattle.xp_protocol.proofs.Lawful.{lawful_command}
use Rattle.xp_plan.specs.declared.errand.Agenda.{Agenda}
use Rattle.xp_plan.specs.declared.errand.Agenda.TheVariants as agendas
use Rattle.xp_plan.specs.declared.errand.Errand.{Errand}
use Rattle.xp_plan.specs.declared.errand.Errand.TheVariants as errands
use Rattle.xp_plan.specs.EndSteps.{step_if, or_else, send_at, take_at, store_at}
use Rattle.xp_plan.specs.PeerSteps.{word_missing, open_step, prepare_by, prepare_free, prepare_at, is_open_to, clear_old, for_peer, boot_peers, boot_own, boot_after_read, boot_at}
use Rattle.xp_plan.specs.Plan.{is_joined, asked, link_rule, link_asked, offline_at, command_at, command_asked, script_asked, ask_partner, ask_own, ask_by, errands_of, agenda_at, IsErrand, IsVisit, plan_of}
use Rattle.xp_plan.specs.Sound.{IsSound, IsSoundEnd}
use Rattle.xp_plan.proofs.Choices.{step_is, choice, first_is, first_or, no_first, some_is, there, none_there, lt_is, ge_is, eq_is}
use Rattle.xp_plan.proofs.EndsCan.{send_at_can, take_at_can, store_at_can, counters_at_can, signal_at_can}
use Rattle.xp_plan.proofs.PeersCan.{MayUp, look_can, off_is, open_is, word_is, engage_can, answer_can, record_can, check_can, leave_can}

asked_is : (o : Option Rule) (r : Rule) → asked o ≡ Some (Some r) → o ≡ Some r
asked_is None r e = absurd (cc)
asked_is (Some x) r e = some_is (Some x) (Some r) e

-- steps for a partner, and at an end
for_can : (s : ScenarioPart) (st : State) (q : ℕ) (o : Option PeerRule) (r : Rule) → st.life ≡ Up → IsPartner s q → ((m : PeerRule) → o ≡ Some m → MayUp (here_of s st q) (peer_of st q) m) → for_peer q o ≡ Some r → Can s st r
for_can s st q None r up is can e = absurd (cc)
for_can s st q (Some m) r up is can e = let h = can m refl in subst (λ (x : Rule). Can s st x) (some_is (ForPeer q m) r e) (up ∙ sym h.0, (is, h.1))

usable : (s : ScenarioPart) (st : State) (q c : ℕ) → IsPartner s q → c < CHANNELS → is_joined (peer_of st q) ≡ true → IsUsable s st q c
usable s st q c is low j =
    let b = and_parts (is_some (peer_of st q).contact) (is_open_to (peer_of st q).engage) j in
    let o = open_is (peer_of st q).engage b.1 in
    record { peer = (is.low, is.other, low); contact = there (peer_of st q).contact b.0; free = o.1; ready = o.0 }

link_is : (q c : ℕ) (o : Option LinkRule) (r : Rule) → link_rule q c o ≡ Some r → (m : LinkRule) × (o ≡ Some m) × (Link q c m ≡ r)
link_is q c None r e = absurd (cc)
link_is q c (Some m) r e = (m, refl, some_is (Link q c m) r e)

link_asked_can : (s : ScenarioPart) (st : State) (q c : ℕ) (o : Option LinkRule) (r : Rule) → st.life ≡ Up → IsPartner s q → c < CHANNELS → ((m : LinkRule) → o ≡ Some m → link_can (end_of st q c) m) → link_asked st q c o ≡ Some r → Can s st r
link_asked_can s st q c o r up is low can e = by (choice (is_joined (peer_of st q)) (link_rule q c o) None r e) where
  by : ((is_joined (peer_of st q) ≡ true) × (link_rule q c o ≡ Some r)) ⊎ ((is_joined (peer_of st q) ≡ false) × (None ≡ Some r)) → Can s st r
  by (inl y) = let l = link_is q c o r y.1 in subst (λ (x : Rule). Can s st x) l.2 (up, (usable s st q c is low y.0, can l.0 l.1))
  by (inr y) = absurd (cc)

-- the step of a command
module _ (s : ScenarioPart) (st : State) (lawful : IsLawfulPart s) (h : IsSound s st) where
  sound : (q c : ℕ) → q < s.count → c < CHANNELS → IsSoundEnd (end_of st q c)
  sound q c low few = (h.peers q low).ends c few

  peer_link : (q c : ℕ) (o : Option LinkRule) (r : Rule) → st.life ≡ Up → IsEndOf s.part s.count q c → (IsSoundEnd (end_of st q c) → (m : LinkRule) → o ≡ Some m → link_can (end_of st q c) m) → link_asked st q c o ≡ Some r → Can s st r
  peer_link q c o r up is can e = link_asked_can s st q c o r up (record { low = is.0; other = is.1 }) is.2 (λ m i. can (sound q c is.0 is.2) m i) e

  none_can : (q c : ℕ) (r : Rule) → st.life ≡ Up → IsEndOf s.part s.count q c → link_asked st q c None ≡ Some r → Can s st r
  none_can q c r up is e = peer_link q c None r up is (λ x m i. absurd (cc)) e

  -- the offline count is stored for the command in progress
  offline_can : (r : Rule) → st.life ≡ Up → offline_at s st ≡ Some r → Can s st r
  offline_can r up e =
      let y = step_is (is_some (offline_asked s st)) (Own StoreOffline) r e in
      subst (λ (x : Rule). Can s st x) y.1 (up, there (offline_asked s st) y.0)

  command_can : (used : ℕ) (x : Command) (r : Rule) → st.life ≡ Up → IsLawfulCommand s x → command_at s st used x (named_end x) ≡ Some r → Can s st r
  command_can used (commands.Send q c payload wait notify) r up l e = peer_link q c (send_at used (end_of st q c)) r up l.0 (λ x m i. send_at_can used (end_of st q c) m x i) e
  command_can used (commands.Take q c wait) r up l e = peer_link q c (take_at (end_of st q c)) r up l (λ x m i. take_at_can (end_of st q c) m x i) e
  command_can used (commands.Release q c number) r up l e = peer_link q c (store_at (end_of st q c)) r up l (λ x m i. store_at_can (end_of st q c) m i) e
  command_can used (commands.Register q c entries limit) r up l e = none_can q c r up l.0 e
  command_can used (commands.Unregister q c) r up l e = none_can q c r up l e
  command_can used (commands.Connected q c) r up l e = none_can q c r up l e
  command_can used (commands.Closed q c) r up l e = none_can q c r up l e
  command_can used (commands.Drain q c) r up l e = none_can q c r up l e
  command_can used (commands.Net frame) r up l e = offline_can r up e
  command_can used (commands.Frames count) r up l e = offline_can r up e
  command_can used (commands.Deactivate q) r up l e = offline_can r up e
  command_can used (commands.Activate q) r up l e = offline_can r up e
  command_can used commands.Leave r up l e = offline_can r up e
  command_can used (commands.Idle turns) r up l e = offline_can r up e
  command_can used commands.Offline r up l e = offline_can r up e
  command_can used commands.Online r up l e = offline_can r up e

  current_can : (used : ℕ) (r : Rule) → st.life ≡ Up → command_asked s st used (current s st) ≡ Some r → Can s st r
  current_can used r up e = by (current s st) refl e where
    by : (o : Option Command) → current s st ≡ o → command_asked s st used o ≡ Some r → Can s st r
    by None i f = absurd (cc)
    by (Some x) i f = command_can used x r up (lawful_command s st.clock.boots (st.script.begun - 1) x lawful i) f

  script_can : (used : ℕ) (r : Rule) → st.life ≡ Up → script_asked s st used ≡ Some r → Can s st r
  script_can used r up e = by (choice st.script.doing (command_asked s st used (current s st)) None r e) where
    by : ((st.script.doing ≡ true) × (command_asked s st used (current s st) ≡ Some r)) ⊎ ((st.script.doing ≡ false) × (None ≡ Some r)) → Can s st r
    by (inl y) = current_can used r up y.1
    by (inr y) = absurd (cc)

  -- the own memory for a partner is prepared
  prepare_can : (q : ℕ) (r : Rule) → st.life ≡ Up → IsPartner s q → prepare_at (here_of s st q).masked q (peer_of st q) ≡ Some r → Can s st r
  prepare_can q r up is e = by (choice (is_off (peer_of st q).engage.area && ((peer_of st q).wanted && nat_lt (peer_of st q).engage.count 4294967295)) _ None r e) where
    opening : (b : Bool) → (here_of s st q).masked ≡ b → (peer_of st q).engage.area ≡ Off → (peer_of st q).wanted ≡ true → is_prepared (peer_of st q).engage ≡ true → Can s st (open_step b q)
    opening true i off wanted whole = (up, (is, (off, whole, wanted, i)))
    opening false i off wanted whole = (up, tt)

    word : (o : Option AreaWord) → word_missing (peer_of st q).engage ≡ o → (peer_of st q).engage.area ≡ Off → (peer_of st q).wanted ≡ true → prepare_by o (here_of s st q).masked q (peer_of st q).engage ≡ Some r → Can s st r
    word None i off wanted f =
        let y = step_is (is_prepared (peer_of st q).engage) (open_step (here_of s st q).masked q) r f in
        subst (λ (x : Rule). Can s st x) y.1 (opening (here_of s st q).masked refl off wanted y.0)
    word (Some w) i off wanted f = subst (λ (x : Rule). Can s st x) (some_is (ForPeer q (Prepare w)) r f) (up, (is, (off, word_is (peer_of st q).engage w i)))

    free : (peer_of st q).engage.area ≡ Off → (peer_of st q).wanted ≡ true → (((peer_of st q).engage.deactivation_cleared ≡ true) × (prepare_by (word_missing (peer_of st q).engage) (here_of s st q).masked q (peer_of st q).engage ≡ Some r)) ⊎ (((peer_of st q).engage.deactivation_cleared ≡ false) × (Some (ForPeer q ClearDeactivationBit) ≡ Some r)) → Can s st r
    free off wanted (inl y) = word (word_missing (peer_of st q).engage) refl off wanted y.1
    free off wanted (inr y) = subst (λ (x : Rule). Can s st x) (some_is (ForPeer q ClearDeactivationBit) r y.1) (up, (is, off))

    by : ((is_off (peer_of st q).engage.area && ((peer_of st q).wanted && nat_lt (peer_of st q).engage.count 4294967295)) ≡ true) × (prepare_free (here_of s st q).masked q (peer_of st q).engage ≡ Some r) ⊎ ((is_off (peer_of st q).engage.area && ((peer_of st q).wanted && nat_lt (peer_of st q).engage.count 4294967295)) ≡ false) × (None ≡ Some r) → Can s st r
    by (inl y) =
        let a = and_parts (is_off (peer_of st q).engage.area) ((peer_of st q).wanted && nat_lt (peer_of st q).engage.count 4294967295) y.0 in
        let b = and_parts (peer_of st q).wanted (nat_lt (peer_of st q).engage.count 4294967295) a.1 in
        free (off_is (peer_of st q).engage.area a.0) b.0 (choice (peer_of st q).engage.deactivation_cleared _ _ r y.1)
    by (inr y) = absurd (cc)

  -- at the place of a partner
  flags_can : (q : ℕ) (m : PeerRule) → step_if (is_joined (peer_of st q)) TakeFlags ≡ Some m → MayUp (here_of s st q) (peer_of st q) m
  flags_can q m e =
      let y = step_is (is_joined (peer_of st q)) TakeFlags m e in
      let b = and_parts (is_some (peer_of st q).contact) (is_open_to (peer_of st q).engage) y.0 in
      subst (λ (x : PeerRule). MayUp (here_of s st q) (peer_of st q) x) y.1 (refl, (there (peer_of st q).contact b.0, (open_is (peer_of st q).engage b.1).1))

  partner_can : (q used : ℕ) (x : Errand) (r : Rule) → st.life ≡ Up → IsPartner s q → IsErrand x → ask_partner s q x used st ≡ Some r → Can s st r
  partner_can q used errands.Look r up is low e = for_can s st q _ r up is (λ m i. look_can (here_of s st q) used (peer_of st q) m (h.peers q is.low) i) e
  partner_can q used errands.Prepare r up is low e = prepare_can q r up is e
  partner_can q used errands.Engage r up is low e = for_can s st q _ r up is (λ m i. engage_can (here_of s st q) (peer_of st q) m i) e
  partner_can q used errands.Answer r up is low e = for_can s st q _ r up is (λ m i. answer_can (here_of s st q) (peer_of st q) m i) e
  partner_can q used errands.Record r up is low e = for_can s st q _ r up is (λ m i. record_can (here_of s st q) used (peer_of st q) m (h.peers q is.low) i) e
  partner_can q used errands.Flags r up is low e = for_can s st q _ r up is (λ m i. flags_can q m i) e
  partner_can q used (errands.Signal c) r up is low e = link_asked_can s st q c _ r up is low (λ m i. signal_at_can used (end_of st q c) m (sound q c is.low low) i) e
  partner_can q used (errands.Counters c) r up is low e = link_asked_can s st q c _ r up is low (λ m i. counters_at_can used (end_of st q c) m (sound q c is.low low) i) e
  partner_can q used errands.Bulk r up is low e = script_can used r up e
  partner_can q used errands.Leave r up is low e = for_can s st q _ r up is (λ m i. leave_can (here_of s st q) (peer_of st q) m i) e
  partner_can q used errands.Check r up is low e = for_can s st q _ r up is (λ m i. check_can (here_of s st q) used (peer_of st q) m (h.peers q is.low) i) e
  partner_can q used errands.Boot r up is low e = absurd (cc)
  partner_can q used errands.Beat r up is low e = absurd (cc)
  partner_can q used errands.Mask r up is low e = absurd (cc)
  partner_can q used errands.Activations r up is low e = absurd (cc)
  partner_can q used errands.Deactivations r up is low e = absurd (cc)
  partner_can q used errands.Engagements r up is low e = absurd (cc)
  partner_can q used errands.Script r up is low e = absurd (cc)

  own_can : (used : ℕ) (x : Errand) (r : Rule) → st.life ≡ Up → ask_own s x used st ≡ Some r → Can s st r
  own_can used errands.Beat r up e = let y = step_is (nat_eq st.beats.offline 0) (Own StoreBeat) r e in subst (λ (z : Rule). Can s st z) y.1 (up, eq_is st.beats.offline 0 y.0)
  own_can used errands.Mask r up e = subst (λ (y : Rule). Can s st y) (step_is _ (Own StoreMask) r e).1 (up, tt)
  own_can used errands.Activations r up e = subst (λ (y : Rule). Can s st y) (some_is (Own TakeActivation) r e) (up, tt)
  own_can used errands.Deactivations r up e = subst (λ (y : Rule). Can s st y) (some_is (Own TakeDeactivation) r e) (up, tt)
  own_can used errands.Engagements r up e = subst (λ (y : Rule). Can s st y) (step_is _ (Own ReadEngaged) r e).1 (up, tt)
  own_can used errands.Script r up e = script_can used r up e
  own_can used errands.Boot r up e = absurd (cc)
  own_can used errands.Look r up e = absurd (cc)
  own_can used errands.Prepare r up e = absurd (cc)
  own_can used errands.Engage r up e = absurd (cc)
  own_can used errands.Answer r up e = absurd (cc)
  own_can used errands.Record r up e = absurd (cc)
  own_can used errands.Flags r up e = absurd (cc)
  own_can used errands.Check r up e = absurd (cc)
  own_can used (errands.Signal c) r up e = absurd (cc)
  own_can used (errands.Counters c) r up e = absurd (cc)
  own_can used errands.Bulk r up e = absurd (cc)
  own_can used errands.Leave r up e = absurd (cc)

  -- a boot
  clear_is : (q : ℕ) (x : Engage) (r : Rule) → st.life ≡ Booting → is_some st.boot.read ≡ true → IsPartner s q → for_peer q (clear_old x) ≡ Some r → Can s st r
  clear_is q x r boots read is e = by x.zeroed e where
    bit : (b : Bool) → for_peer q (step_if (not b) ClearOldBit) ≡ Some r → Can s st r
    bit true f = absurd (cc)
    bit false f = subst (λ (y : Rule). Can s st y) (some_is (ForPeer q ClearOldBit) r f) (boots, (is, read))

    by : (b : Bool) → for_peer q (if not b then Some ZeroMagic else step_if (not x.cleared) ClearOldBit) ≡ Some r → Can s st r
    by true f = bit x.cleared f
    by false f = subst (λ (y : Rule). Can s st y) (some_is (ForPeer q ZeroMagic) r f) (boots, (is, read))

  peers_clear : (k : ℕ) (peers : List Peer) (r : Rule) → k + length peers ≤ s.count → st.life ≡ Booting → is_some st.boot.read ≡ true → boot_peers s.part k peers ≡ Some r → Can s st r
  peers_clear k [] r low boots read e = absurd (cc)
  peers_clear k (p ∷ peers) r low boots read e = by (first_is (if nat_eq k s.part then None else for_peer k (clear_old p.engage)) (boot_peers s.part (k + 1) peers) r e) (peers_clear (k + 1) peers r (omega (arith, low)) boots read) where
    here : (b : Bool) → nat_eq k s.part ≡ b → (if b then None else for_peer k (clear_old p.engage)) ≡ Some r → Can s st r
    here true i f = absurd (cc)
    here false i f = clear_is k p.engage r boots read (record { low = omega (arith, low); other = λ same. other i same }) f where
      other : nat_eq k s.part ≡ false → k ≡ s.part → ⊥
      other i same = grind (arith, nat_tests)

    by : ((if nat_eq k s.part then None else for_peer k (clear_old p.engage)) ≡ Some r) ⊎ (boot_peers s.part (k + 1) peers ≡ Some r) → (boot_peers s.part (k + 1) peers ≡ Some r → Can s st r) → Can s st r
    by (inl f) later = here (nat_eq k s.part) refl f
    by (inr f) later = later f

  -- where none is left to be cleared, all are
  abbrev IsClear : Engage → Type 0
  IsClear x = (x.zeroed ≡ true) × (x.cleared ≡ true)

  none_left : (x : Engage) (q : ℕ) → for_peer q (clear_old x) ≡ None → IsClear x
  none_left x q e = by x.zeroed refl e where
    bit : (b : Bool) → x.cleared ≡ b → x.zeroed ≡ true → for_peer q (step_if (not b) ClearOldBit) ≡ None → IsClear x
    bit true i z f = (z, i)
    bit false i z f = absurd (cc)

    by : (b : Bool) → x.zeroed ≡ b → for_peer q (if not b then Some ZeroMagic else step_if (not x.cleared) ClearOldBit) ≡ None → IsClear x
    by true i f = bit x.cleared refl i f
    by false i f = absurd (cc)

  all_clear : (k : ℕ) (peers : List Peer) → boot_peers s.part k peers ≡ None → (j : ℕ) → (k + j ≡ s.part → ⊥) → IsClear (peer_at peers j).engage
  all_clear k [] e j other = (refl, refl)
  all_clear k (p ∷ peers) e zero other = by (nat_eq k s.part) refl (no_first (if nat_eq k s.part then None else for_peer k (clear_old p.engage)) (boot_peers s.part (k + 1) peers) e).0 where
    by : (b : Bool) → nat_eq k s.part ≡ b → (if b then None else for_peer k (clear_old p.engage)) ≡ None → IsClear p.engage
    by true i f = absurd (let e = eq_is k s.part i in other (omega (arith, e)))
    by false i f = none_left p.engage k f
  all_clear k (p ∷ peers) e (suc j) other = all_clear (k + 1) peers (no_first (if nat_eq k s.part then None else for_peer k (clear_old p.engage)) (boot_peers s.part (k + 1) peers) e).1 j (λ same. other (omega (arith, same)))

  boot_can : (r : Rule) → st.life ≡ Booting → boot_at s.part st ≡ Some r → Can s st r
  boot_can r boots e = by (choice (is_some st.boot.read) (boot_after_read s.part st) (Some (Own ReadStamp)) r e) where
    own : is_some st.boot.read ≡ true → boot_own st.boot.mask st.boot.offline ≡ Some r → Can s st r
    own read f = first (choice (not st.boot.mask) (Some (Own ZeroMask)) (step_if (not st.boot.offline) (Own ZeroOffline)) r f) where
      first : ((not st.boot.mask ≡ true) × (Some (Own ZeroMask) ≡ Some r)) ⊎ ((not st.boot.mask ≡ false) × (step_if (not st.boot.offline) (Own ZeroOffline) ≡ Some r)) → Can s st r
      first (inl y) = subst (λ (x : Rule). Can s st x) (some_is (Own ZeroMask) r y.1) (boots, there st.boot.read read)
      first (inr y) = subst (λ (x : Rule). Can s st x) (step_is (not st.boot.offline) (Own ZeroOffline) r y.1).1 (boots, there st.boot.read read)

    zeroes : (mask offline : Bool) → boot_own mask offline ≡ None → (mask ≡ true) × (offline ≡ true)
    zeroes true true f = (refl, refl)
    zeroes true false f = absurd (cc)
    zeroes false offline f = absurd (cc)

    last : is_some st.boot.read ≡ true → boot_own st.boot.mask st.boot.offline ≡ None → (boot_peers s.part 0 st.peers ≡ Some r) ⊎ ((boot_peers s.part 0 st.peers ≡ None) × (Some (Own WriteStamp) ≡ Some r)) → Can s st r
    last read o (inl f) = peers_clear 0 st.peers r (let l = h.few in omega (arith, l)) boots read f
    last read o (inr y) =
        let z = zeroes st.boot.mask st.boot.offline o in
        subst (λ (x : Rule). Can s st x) (some_is (Own WriteStamp) r y.1) (boots, (there st.boot.read read, z.0, z.1, λ q low other. all_clear 0 st.peers y.0 q (λ same. other (omega (arith, same)))))

    after : is_some st.boot.read ≡ true → (boot_own st.boot.mask st.boot.offline ≡ Some r) ⊎ ((boot_own st.boot.mask st.boot.offline ≡ None) × (or_else (boot_peers s.part 0 st.peers) (Some (Own WriteStamp)) ≡ Some r)) → Can s st r
    after read (inl f) = own read f
    after read (inr y) = last read y.0 (first_or (boot_peers s.part 0 st.peers) (Some (Own WriteStamp)) r y.1)

    by : ((is_some st.boot.read ≡ true) × (boot_after_read s.part st ≡ Some r)) ⊎ ((is_some st.boot.read ≡ false) × (Some (Own ReadStamp) ≡ Some r)) → Can s st r
    by (inl y) = after y.0 (first_or (boot_own st.boot.mask st.boot.offline) (or_else (boot_peers s.part 0 st.peers) (Some (Own WriteStamp))) r y.1)
    by (inr y) = subst (λ (x : Rule). Can s st x) (some_is (Own ReadStamp) r y.1) (boots, none_there st.boot.read y.0)

  -- at each place
  abbrev IsPlace : Place → Type 0
  IsPlace OwnPlace = Unit {0}
  IsPlace (PartnerPlace q) = IsPartner s q

  asks_can : (life : Life) (place : Place) (used : ℕ) (x : Errand) (r : Rule) → st.life ≡ life → IsPlace place → IsErrand x → ask_by life s place x used st ≡ Some r → Can s st r
  asks_can Up OwnPlace used x r i at low e = own_can used x r i e
  asks_can Up (PartnerPlace q) used x r i at low e = partner_can q used x r i at low e
  asks_can Booting place used errands.Boot r i at low e = boot_can r i e
  asks_can Booting place used errands.Beat r i at low e = absurd (cc)
  asks_can Booting place used errands.Mask r i at low e = absurd (cc)
  asks_can Booting place used errands.Activations r i at low e = absurd (cc)
  asks_can Booting place used errands.Deactivations r i at low e = absurd (cc)
  asks_can Booting place used errands.Engagements r i at low e = absurd (cc)
  asks_can Booting place used errands.Look r i at low e = absurd (cc)
  asks_can Booting place used errands.Prepare r i at low e = absurd (cc)
  asks_can Booting place used errands.Engage r i at low e = absurd (cc)
  asks_can Booting place used errands.Answer r i at low e = absurd (cc)
  asks_can Booting place used errands.Record r i at low e = absurd (cc)
  asks_can Booting place used errands.Flags r i at low e = absurd (cc)
  asks_can Booting place used errands.Check r i at low e = absurd (cc)
  asks_can Booting place used (errands.Signal c) r i at low e = absurd (cc)
  asks_can Booting place used (errands.Counters c) r i at low e = absurd (cc)
  asks_can Booting place used errands.Bulk r i at low e = absurd (cc)
  asks_can Booting place used errands.Leave r i at low e = absurd (cc)
  asks_can Booting place used errands.Script r i at low e = absurd (cc)
  asks_can Halted place used x r i at low e = absurd (cc)

  place_is : (k : ℕ) → s.part < s.count → k < s.count → IsPlace (place_at s.part k)
  place_is k own low = by (nat_eq k 0) refl where
    partner : (b : Bool) → nat_lt s.part k ≡ b → nat_eq k 0 ≡ false → IsPlace (if b then PartnerPlace k else PartnerPlace (k - 1))
    partner true i z = let l = lt_is s.part k i in record { low = low; other = λ same. omega (arith, l, same) }
    partner false i z =
        let l = ge_is s.part k i in
        let some = not_zero z in
        record { low = omega (arith, l, own); other = λ same. omega (arith, same, l, some) }
      where
        not_zero : nat_eq k 0 ≡ false → 0 < k
        not_zero z = grind (arith, nat_tests)

    by : (b : Bool) → nat_eq k 0 ≡ b → IsPlace (if b then OwnPlace else (if nat_lt s.part k then PartnerPlace k else PartnerPlace (k - 1)))
    by true i = tt
    by false i = partner (nat_lt s.part k) refl i

-- the errands of an agenda are of channels that there are
pub agenda_errands : (x : Agenda) → AllByRecursion IsErrand (errands_of x)
agenda_errands agendas.Boot = (tt, tt)
agenda_errands agendas.Own = (tt, (tt, (tt, (tt, (tt, (tt, tt))))))
agenda_errands agendas.Apart = (tt, (tt, (tt, (tt, (tt, (tt, (tt, (tt, tt))))))))
agenda_errands agendas.Joined = (tt, (tt, (tt, (omega arith, (omega arith, (omega arith, (omega arith, (omega arith, (omega arith, (omega arith, (omega arith, (tt, (tt, tt)))))))))))))

pub given : (s : ScenarioPart) (k : ℕ) (st : State) → AllByRecursion IsErrand ((plan_of s).errands k st)
given s k st = agenda_errands (agenda_at (place_at s.part k) st)

pub permits : (s : ScenarioPart) → IsLawfulPart s → (st : State) → IsSound s st → (v : Visit Errand) → IsVisit s v → (rule : Rule) → (planned (plan_of s) v st).rule ≡ Some rule → Can s st rule
permits s lawful st h v is rule e =
    let a = planned_asks (plan_of s) IsErrand (given s) v st rule is.ring is.errands e in
    let low = subst (λ (n : ℕ). a.place < n) is.count a.low in
    asks_can s st lawful h st.life (place_at s.part a.place) a.used a.errand rule refl (place_is s st lawful h a.place lawful.part low) a.holds (asked_is (ask_by st.life s (place_at s.part a.place) a.errand a.used st) rule a.asks)
