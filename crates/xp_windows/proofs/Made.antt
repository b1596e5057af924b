-- What the end's own step makes of it, where its partner stays met.
use Rattle.std.proofs.Common.{◌≡◌, ◌<◌, length, ℕ, Bool, true, false, ◌&&◌, List, [], ◌∷◌, get_or-set_same, refl, ap, sym, ◌∙◌, subst, Option, Some, None}
use Rattle.std.specs.Prelude.{not, if◌then◌else◌}
use Rattle.xp_base.specs.declared.reason.Reason.{Reason}
use Rattle.xp_base.specs.declared.reason.Reason.TheVariants.{Unloading, BadFlags}
use Rattle.xp_base.specs.declared.step.Answer.{Answer}
use Rattle.xp_base.specs.declared.step.CopyMark.{CopyMark}
use Rattle.xp_base.specs.History.{Act, Marked, Turn}
use Rattle.xp_script.specs.declared.part.ScenarioPart.{ScenarioPart}
use Rattle.xp_protocol.specs.declared.rule.LinkRule.{LinkRule}
use Rattle.xp_protocol.specs.declared.rule.Rule.{Rule}
use Rattle.xp_protocol.specs.declared.rule.Rule.TheVariants.{Link}
use Rattle.xp_protocol.specs.Effects.{Effect, Note, first_reason}
use Rattle.xp_protocol.specs.Parts.{fails_at}
use Rattle.xp_protocol.specs.State.{State, End, Peer, Old, cold_peer, idle_end, link_at, peer_at, end_of, peer_of, set_link}
use Rattle.xp_protocol.specs.Peering.{with_reason, end_reason, is_ready, booted_peer}
use Rattle.xp_protocol.specs.Rules.{mark_of, numbered, link_answered, place_for, after_answer}
use Rattle.xp_protocol.specs.Acts.{Aim, aimed, with_aim, command_begun, after_act, after_acts}
use Rattle.xp_protocol.specs.Decode.{rule_of}
use Rattle.xp_protocol.specs.Runs.{May, MayMake, MayStep, after_ruled, after_step, after_turn, acted, turn_counted, moment, moment_by, restarted, restart_comes, stop_comes, is_over, is_failed}
use Rattle.xp_protocol.proofs.Slots.{at_each, at_peer}
use Rattle.xp_protocol.proofs.Frames.{wanted_at}
use Rattle.xp_windows.specs.Windows.{middle, IsMet}
use Rattle.xp_windows.specs.Visited.{rule_by, rule_made}
use Rattle.xp_windows.proofs.Keeps.{ActsKeep, acts_keep, moment_keeps, no_contact, within}

none_first : (a b : Option Reason) → first_reason a b ≡ None → (a ≡ None) × (b ≡ None)
none_first None b h = (refl, h)
none_first (Some r) b h = absurd (cc)

end_none : (seen : ℕ) (o : Option Reason) → end_reason seen o ≡ None → o ≡ None
end_none seen None e = refl
end_none seen (Some (BadFlags w)) e = absurd (cc)
end_none seen (Some r) e = absurd (cc)

module _ (s : ScenarioPart) (q c : ℕ) where
  abbrev Free : State → Type 0
  Free st = (peer_of st q).engage.reason ≡ None

  -- a partner that has no reason after some acts had none before
  aim_free : (st : State) (o : Option Aim) → Free (with_aim o st) → Free st
  aim_free st None h = h
  aim_free st (Some y) h = at_peer (λ (p : Peer). p.engage.reason ≡ None → Free st) st.peers y.partner (set_link (peer_at st.peers y.partner) y.channel y.effect.local) q (λ e i. subst (λ (j : ℕ). Free (record st { peers = st.peers })) e (subst (λ (j : ℕ). (peer_of st j).engage.reason ≡ None) (sym e) i)) (λ i. i) h

  act_free : (st : State) (a : Act) → Free (after_act s st a) → Free st
  act_free st a h =
      aim_free st (aimed s st a) (wanted_at (λ (p : Peer). p.engage.reason ≡ None → Free (with_aim (aimed s st a) st)) (command_begun s st a) (with_aim (aimed s st a) st).peers q
      (λ p x i. x (none_first p.engage.reason (if is_ready p.engage.area then Some Unloading else None) i).0) (λ p x i. x i) (λ i. i) h)

  acts_free : (st : State) (list : List Act) → Free (after_acts s st list) → Free st
  acts_free st [] h = h
  acts_free st (a ∷ more) h = act_free st a (acts_free (after_act s st a) more h)

  moment_free_by : (b d : Bool) (st : State) → IsMet q (moment_by s b d st) → Free st
  moment_free_by false true st met = met.free
  moment_free_by false false st met = met.free
  moment_free_by true d st met = absurd (no_contact (peer_of (restarted s st) q).contact (at_each (λ (p : Peer). p.contact ≡ None) (λ j p. booted_peer p) st.peers q (cold_peer Old) refl (λ l. refl)) met.contact)

  moment_free : (earlier : ℕ) (st : State) → IsMet q (moment s earlier st) → Free st
  moment_free earlier st met = moment_free_by (restart_comes s earlier st && not (is_over st)) (stop_comes s earlier st && not (is_over st)) st met

  -- the step itself
  abbrev pub Does : State → LinkRule → Answer → Effect End (List Note)
  Does st m a = link_answered (mark_of s st (Link q c m)) (place_for s c) (end_of st q c) m a

  exact : (st : State) (m : LinkRule) (a : Answer) → IsMet q st → c < length (peer_of st q).links → end_of (after_answer s st (Link q c m) a) q c ≡ (Does st m a).local
  exact st m a met low =
      let mark = mark_of s st (Link q c m) in
      let g = Does st m a in
      ap (λ (p : Peer). link_at p.links c) (get_or-set_same st.peers q (with_reason (end_reason (peer_of st q).flags_seen g.reason) (set_link (numbered mark c (peer_of st q)) c g.local)) (cold_peer Old) (within q st met))
      ∙ get_or-set_same (peer_of st q).links c g.local idle_end low

  unblamed : (st : State) (m : LinkRule) (a : Answer) → IsMet q st → Free (after_answer s st (Link q c m) a) → (Does st m a).reason ≡ None
  unblamed st m a met h =
      let mark = mark_of s st (Link q c m) in
      let g = Does st m a in
      let new = ap (λ (p : Peer). p.engage.reason) (get_or-set_same st.peers q (with_reason (end_reason (peer_of st q).flags_seen g.reason) (set_link (numbered mark c (peer_of st q)) c g.local)) (cold_peer Old) (within q st met)) in
      let z = (none_first (peer_of st q).engage.reason (if is_ready (peer_of st q).engage.area then end_reason (peer_of st q).flags_seen g.reason else None) (sym new ∙ h)).1 in
      end_none (peer_of st q).flags_seen g.reason (ap (λ (b : Bool). if b then end_reason (peer_of st q).flags_seen g.reason else None) (sym (ap (λ (x : _). is_ready x) met.ready)) ∙ z)

  -- the rule of the end's own step is known: what it makes of the end stands after the turn
  pub step_makes : (P : End → Type 0) → ActsKeep P → (st : State) (t : Turn) (m : LinkRule) → May s st t → IsMet q (middle s st t) → c < length (peer_of (middle s st t) q).links → IsMet q (after_turn s st t) → rule_made s (middle s st t) t ≡ Some (Link q c m)
      → ((a : Answer) → is_failed a ≡ fails_at s (mark_of s (middle s st t) (Link q c m)) → (Does (middle s st t) m a).reason ≡ None → P (Does (middle s st t) m a).local) → P (end_of (after_turn s st t) q c)
  step_makes P acts st t m may met low later e makes = by t.made refl may.made e where
    ends : P (end_of (after_step s (middle s st t) t.made) q c) → P (end_of (after_turn s st t) q c)
    ends x = moment_keeps P s q c st.clock.puts (turn_counted (acted s st t)) later (acts_keep P s q c acts (after_step s (middle s st t) t.made) t.after x)

    found : (x : Marked) → t.made ≡ Some x → (y : MayStep s (middle s st t) x) → y.rule ≡ Link q c m → P (end_of (after_turn s st t) q c)
    found x i y same =
        let marked : x.mark ≡ mark_of s (middle s st t) (Link q c m) = y.mark ∙ ap (λ (r : Rule). mark_of s (middle s st t) r) same in
        let ruled : rule_of s (middle s st t) x.step.op x.mark ≡ Some (Link q c m) = y.decoded ∙ ap (λ (r : Rule). Some r) same in
        let free = acts_free (after_step s (middle s st t) t.made) t.after (moment_free st.clock.puts (turn_counted (acted s st t)) later) in
        let free_after : Free (after_answer s (middle s st t) (Link q c m) x.step.answer) = subst (λ (o : Option Rule). Free (after_ruled s (middle s st t) o x.step.answer)) ruled (subst (λ (z : Option Marked). Free (after_step s (middle s st t) z)) i free) in
        let h = makes x.step.answer (y.fails ∙ ap (λ (o : Option CopyMark). fails_at s o) marked) (unblamed (middle s st t) m x.step.answer met free_after) in
        let g = subst P (sym (exact (middle s st t) m x.step.answer met low)) h in
        let d = subst (λ (o : Option Rule). P (end_of (after_ruled s (middle s st t) o x.step.answer) q c)) (sym ruled) g in
        ends (subst (λ (z : Option Marked). P (end_of (after_step s (middle s st t) z) q c)) (sym i) d)

    same_rule : (a b : Rule) → Some a ≡ Some b → a ≡ b
    same_rule a b f = cc

    by : (o : Option Marked) → t.made ≡ o → MayMake s (middle s st t) o → rule_by s (middle s st t) o ≡ Some (Link q c m) → P (end_of (after_turn s st t) q c)
    by None i y f = absurd (cc)
    by (Some x) i y f = found x i y (same_rule y.rule (Link q c m) (sym y.decoded ∙ f))
