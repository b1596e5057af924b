-- The records of all ends of a partition, by themselves, after each rule, each act and each moment.
use Rattle.std.proofs.Common.{◌≡◌, ℕ, ◌-◌, ◌<◌, Bool, true, false, ◌&&◌, not, cond, eqb, List, [], ◌∷◌, ◌++◌, zero, suc, length, refl, ap, sym, ◌∙◌, subst, arith, inl, inr, Option, Some, None}
use Rattle.std.specs.Prelude.{slice_get, is_some}
use Rattle.std.proofs.lemmas.Bool.{eq-eqb}
use Rattle.xp_base.specs.declared.reason.Reason.{Reason}
use Rattle.xp_base.specs.declared.step.Answer.{Answer}
use Rattle.xp_base.specs.declared.step.Answer.TheVariants.{Word, Failed}
use Rattle.xp_base.specs.declared.step.CopyMark.{CopyMark}
use Rattle.xp_base.specs.Kinds.{kinds_in}
use Rattle.xp_base.specs.History.{Act, Begun, Answered, Noticed}
use Rattle.xp_script.specs.declared.command.Command.{Command}
use Rattle.xp_protocol.specs.declared.rule.PeerRule.{PeerRule}
use Rattle.xp_protocol.specs.declared.rule.PeerRule.TheVariants.{AskActivation, TakeFlags, CloseArea, ZeroMagic, ClearOldBit, Prepare, OpenArea, SetEngagementBit, ReadRecord, StoreEcho, StoreSecond, ClearEngagementBit, LookAtPage, CheckBeat, ClearDeactivationBit, TellPartner}
use Rattle.xp_protocol.specs.declared.rule.OwnRule.TheVariants.{ReadEngaged, TakeDeactivation, ReadStamp, ZeroMask, ZeroOffline, WriteStamp, StoreMask, TakeActivation, StoreBeat, StoreOffline}
use Rattle.xp_protocol.specs.declared.rule.Rule.{Rule}
use Rattle.xp_protocol.specs.declared.rule.Rule.TheVariants.{Link, Peer as ForPeer, Own}
use Rattle.xp_script.specs.declared.part.ScenarioPart.{ScenarioPart}
use Rattle.xp_protocol.specs.Parts.{script_in, IsLawfulPart}
use Rattle.xp_protocol.specs.Records.{Recorded, opened_record}
use Rattle.xp_protocol.specs.Effects.{Effect, just, Note, with_notes}
use Rattle.xp_protocol.specs.State.{State, End, Peer, Reading, Old, warm_end, first_met, opened_new, cold_peer, idle_end, opened_state, is_begun, end_of, peer_of, peer_at, link_at}
use Rattle.xp_protocol.specs.Linking.{link_down, link_finished, link_joined, flags_got, booted_end}
use Rattle.xp_protocol.specs.Peering.{Here, same_peer, is_bad_flags, area_left_for, contact_made, contact_of, try_contact, record_read, peer_effect, area_off, peer_read, deactivation_heard, is_left, is_flagged, is_magic, is_wrong, has_shown, with_reason, peer_failed, booted_peer}
use Rattle.xp_protocol.specs.Rules.{Can, here_of, peer_numbered, mark_of, place_for, after_answer, noted_rule}
use Rattle.xp_protocol.specs.Acts.{Aim, MayAct, after_act, command_begun, aimed, aim_of, aim_by, EndName, named_end, upcoming, current, end_begun, end_answered, with_aim, noted_aim}
use Rattle.xp_protocol.specs.Runs.{turned, restart_comes, stop_comes, moment_by, is_over}
use Rattle.xp_script.specs.declared.part.Link.{Link as SetupLink}
use Rattle.xp_protocol.specs.declared.contact.PartnerState.TheVariants.{Active}
use Rattle.xp_base.specs.declared.reason.Reason.TheVariants.{OtherGoingDown}
use Rattle.xp_protocol.specs.Logged.{is_at, opened_records}
use Rattle.xp_protocol.proofs.Lawful.{lawful_command}
use Rattle.xp_protocol.proofs.Named.{IsNamed, named_low}
use Rattle.xp_protocol.proofs.Slots.{at_each}
use Rattle.xp_protocol.proofs.Frames.{AreAll, links_framed, peers_framed, link_frame, peer_frame, aim_frame, rule_all, act_all, cold_all, wanted_at}
use Rattle.xp_protocol.proofs.Opened.{start_all, opened_or}
use Rattle.xp_meetings.proofs.Parts.{Part, part_act, part_ruled, part_moment, part_opened}
use Rattle.xp_promises.proofs.Own.{facts, Live, AreDone, Local, new_live, live_done, idle_local, live_local, Holds, linked, goes_down, finishes, joins, boots, takes, begins_by, answers_by, notices_by}

abbrev pub LocalAt : End → List Recorded → Type 0
LocalAt e rs = Local (is_begun e) (facts e) rs

pub record Owned (n : ℕ) (k : Part) : Type 0 where
  pub all : AreAll n k.state.peers
  pub ends : (q c : ℕ) → q < n → c < 4 → LocalAt (end_of k.state q c) (k.books q c)

abbrev At : List Recorded → ℕ → ℕ → End → List Note → Type 0
At rs q c e ns = LocalAt e (with_notes q c ns rs)

module _ (rs : List Recorded) (q c : ℕ) (lc : c < 4) where
  abbrev Q : End → List Note → Type 0
  Q e ns = At rs q c e ns

  abbrev In : Effect Peer (ℕ → List Note) → Type 0
  In h = Q (link_at h.local.links c) (h.notes c)

  cond_in : (b : Bool) (f g : Effect Peer (ℕ → List Note)) → In f → In g → In (cond b f g)
  cond_in true f g x y = x
  cond_in false f g x y = y

  module _ (y : Here) (p : Peer) (n : length p.links ≡ 4) (old : Q (link_at p.links c) []) where
    meets : (z : Peer) → z.links ≡ p.links → In (try_contact y.turn y.stamp z)
    meets z e =
        let now : Q (link_at z.links c) [] = subst (λ (ls : List End). Q (link_at ls c) []) (sym e) old in
        cond_in (z.engage.second && (z.engage.shown && not (is_some z.contact))) (contact_made y.turn y.stamp z) (same_peer z)
        (links_framed Q (λ c e. link_joined z.both_new (contact_of y.stamp z.engage) e) (record z { contact = Some (contact_of y.stamp z.engage); engage = record z.engage { state = Active } }) c (ap length e ∙ n) lc (joins q c z.both_new (contact_of y.stamp z.engage) (link_at z.links c) rs now)) now

    read_in : (o : Option Reading) (w : ℕ) → In (record_read y p o w)
    read_in None w = cond_in (eqb w 0) _ _ old (cond_in (is_magic w) _ _ old old)
    read_in (Some r) w =
        cond_in (eqb r.done 1) _ _ old (cond_in (eqb r.done 2) _ _ old (cond_in (eqb r.done 7) _ _
        (cond_in (has_shown y.stamp p.engage r) _ _ (meets (record p { engage = record p.engage { shown = true; reading = None } }) refl) old)
        (cond_in (is_wrong y.part r.done w) _ _ old old)))

    left_in : (o : Option Reason) → In (area_left_for o p)
    left_in None = old
    left_in (Some reason) = links_framed Q (λ c e. link_down reason e) p c n lc (goes_down q c reason (link_at p.links c) rs old)

    peered : (m : PeerRule) (w : ℕ) → In (peer_effect y p m w)
    peered TakeFlags w = cond_in (is_bad_flags w) _ _ old (links_framed Q (λ c e. flags_got (kinds_in w c) e) p c n lc (takes q c (kinds_in w c) (link_at p.links c) rs old))
    peered CloseArea w = left_in p.engage.reason
    peered ReadRecord w = read_in p.engage.reading w
    peered StoreSecond w = meets (record p { engage = record p.engage { second = true } }) refl
    peered AskActivation w = old
    peered ZeroMagic w = old
    peered ClearOldBit w = old
    peered (Prepare x) w = old
    peered OpenArea w = old
    peered SetEngagementBit w = old
    peered StoreEcho w = old
    peered ClearEngagementBit w = old
    peered LookAtPage w = cond_in (eqb (length (p.paging ++ w ∷ [])) 5) _ _ old old
    peered CheckBeat w = old
    peered ClearDeactivationBit w = old
    peered TellPartner w = old

    freed : (w k : ℕ) → In (peer_read w k p)
    freed w k = cond_in (is_left p.engage && not (is_flagged w k)) (area_off p) (same_peer p) (links_framed Q (λ c e. link_finished e) p c n lc (finishes q c (link_at p.links c) rs old)) old

    told : (w k : ℕ) → In (deactivation_heard w k p)
    told w k = by (is_some p.engage.echo && is_flagged w k) where
      by : (b : Bool) → In (same_peer (cond b (with_reason (Some (OtherGoingDown w)) p) p))
      by true = old
      by false = old

    failed : (mark : Option CopyMark) (reason : Option Reason) → In (record { local = peer_failed y.turn mark p; reason = reason; notes = λ c. [] })
    failed None reason = old
    failed (Some mark) reason = old

numbered_links : (mark : Option CopyMark) (p : Peer) → (peer_numbered mark p).links ≡ p.links
numbered_links None p = refl
numbered_links (Some mark) p = refl

module _ (su : ScenarioPart) (law : IsLawfulPart su) (k : Part) (h : Owned su.count k) where
  abbrev st : State
  st = k.state

  ruled : (r : Rule) (a : Answer) → Can su st r → (q c : ℕ) → q < su.count → c < 4 → At (k.books q c) q c (end_of (after_answer su st r a) q c) (noted_rule su st r a q c)
  ruled (Link j d m) a can q c lq lc = link_frame (At (k.books q c) q c) su st j d m a q c h.all can.1.0.peer.0 can.1.0.peer.2 (λ e g. linked q c (mark_of su st (Link j d m)) (place_for su d) (end_of st j d) m a can.1.1 (k.books q c) (subst (λ (x : ℕ). LocalAt (end_of st x d) (k.books q c)) (sym e) (subst (λ (x : ℕ). LocalAt (end_of st q x) (k.books q c)) (sym g) (h.ends q c lq lc)))) (λ o. h.ends q c lq lc)
  ruled (ForPeer j m) (Word w) can q c lq lc =
      let mark = mark_of su st (ForPeer j m) in
      peer_frame (At (k.books q c) q c) su st j m (Word w) q c h.all can.1.0.low
      (λ e. peered (k.books q c) q c lc (here_of su st j) (peer_numbered mark (peer_of st j)) (ap length (numbered_links mark (peer_of st j)) ∙ h.all.channels j) (subst (λ (ls : List End). LocalAt (link_at ls c) (k.books q c)) (sym (numbered_links mark (peer_of st j))) (subst (λ (x : ℕ). LocalAt (end_of st x c) (k.books q c)) (sym e) (h.ends q c lq lc))) m w) (λ o. h.ends q c lq lc)
  ruled (ForPeer j m) Failed can q c lq lc =
      peer_frame (At (k.books q c) q c) su st j m Failed q c h.all can.1.0.low
      (λ e. failed (k.books q c) q c lc (here_of su st j) (peer_of st j) (h.all.channels j) (subst (λ (x : ℕ). LocalAt (end_of st x c) (k.books q c)) (sym e) (h.ends q c lq lc)) (mark_of su st (ForPeer j m)) None) (λ o. h.ends q c lq lc)
  ruled (Own ReadEngaged) (Word w) can q c lq lc = peers_framed (At (k.books q c) q c) (peer_read w) st.peers q c h.all lq (freed (k.books q c) q c lc (here_of su st q) (peer_at st.peers q) (h.all.channels q) (h.ends q c lq lc) w q)
  ruled (Own TakeDeactivation) (Word w) can q c lq lc = peers_framed (At (k.books q c) q c) (deactivation_heard w) st.peers q c h.all lq (told (k.books q c) q c lc (here_of su st q) (peer_at st.peers q) (h.all.channels q) (h.ends q c lq lc) w q)
  ruled (Own ReadStamp) (Word w) can q c lq lc = h.ends q c lq lc
  ruled (Own ZeroMask) (Word w) can q c lq lc = h.ends q c lq lc
  ruled (Own ZeroOffline) (Word w) can q c lq lc = h.ends q c lq lc
  ruled (Own WriteStamp) (Word w) can q c lq lc = h.ends q c lq lc
  ruled (Own StoreMask) (Word w) can q c lq lc = h.ends q c lq lc
  ruled (Own TakeActivation) (Word w) can q c lq lc = h.ends q c lq lc
  ruled (Own StoreBeat) (Word w) can q c lq lc = h.ends q c lq lc
  ruled (Own StoreOffline) (Word w) can q c lq lc = h.ends q c lq lc
  ruled (Own m) Failed can q c lq lc = h.ends q c lq lc

  pub owned_rule : (r : Rule) (a : Answer) → Can su st r → Owned su.count (part_ruled su k r a)
  owned_rule r a can = record { all = rule_all su st r a h.all; ends = λ q c lq lc. ruled r a can q c lq lc }

  -- acts
  abbrev AimHolds : Option Aim → Type 0
  AimHolds None = Unit {0}
  AimHolds (Some y) = (y.partner < su.count) × (y.channel < 4) × ((q c : ℕ) → y.partner ≡ q → y.channel ≡ c → Holds q c (end_of st y.partner y.channel) y.effect)

  acted : (x : Option Aim) → AimHolds x → (q c : ℕ) → q < su.count → c < 4 → LocalAt (end_of (with_aim x st) q c) (with_notes q c (noted_aim x q c) (k.books q c))
  acted None b q c lq lc = h.ends q c lq lc
  acted (Some y) b q c lq lc = aim_frame (At (k.books q c) q c) st y q c h.all b.0 b.1 (λ e g. b.2 q c e g (k.books q c) (subst (λ (x : ℕ). LocalAt (end_of st x y.channel) (k.books q c)) (sym e) (subst (λ (x : ℕ). LocalAt (end_of st q x) (k.books q c)) (sym g) (h.ends q c lq lc)))) (h.ends q c lq lc)

  begun_by : (x : Command) (o : Option EndName) → IsNamed su.count o → AimHolds (aim_by st end_begun x o)
  begun_by x None b = tt
  begun_by x (Some n) b = (b.0, b.1, λ q c u v. begins_by q c (end_of st n.partner n.channel) x)

  begun_aim : (o : Option Command) (i : ℕ) → slice_get (script_in su st.clock.boots) i ≡ o → AimHolds (aim_of st end_begun o)
  begun_aim None i e = tt
  begun_aim (Some x) i e = begun_by x (named_end x) (named_low su x (lawful_command su st.clock.boots i x law e))

  answered_by_end : (x : Command) (o : Option EndName) → IsNamed su.count o → AimHolds (aim_by st end_answered x o)
  answered_by_end x None b = tt
  answered_by_end x (Some n) b = (b.0, b.1, λ q c u v. answers_by q c (end_of st n.partner n.channel) x)

  answered_aim : (o : Option Command) (i : ℕ) → slice_get (script_in su st.clock.boots) i ≡ o → AimHolds (aim_of st end_answered o)
  answered_aim None i e = tt
  answered_aim (Some x) i e = answered_by_end x (named_end x) (named_low su x (lawful_command su st.clock.boots i x law e))

  act_aim : (x : Act) → MayAct su st x → AimHolds (aimed su st x)
  act_aim Begun may = begun_aim (upcoming su st) st.script.begun refl
  act_aim Answered may = answered_aim (current su st) (st.script.begun - 1) refl
  act_aim (Noticed q c number how) may = (may.1.0, may.1.1, λ q' c' u v. notices_by q' c' (end_of st q c) how number may.1.2)

  wanted_local : (x : Act) (q c : ℕ) → LocalAt (end_of (with_aim (aimed su st x) st) q c) (with_notes q c (noted_aim (aimed su st x) q c) (k.books q c)) → LocalAt (end_of (after_act su st x) q c) (with_notes q c (noted_aim (aimed su st x) q c) (k.books q c))
  wanted_local x q c h = wanted_at (λ (p : Peer). LocalAt (link_at p.links c) (with_notes q c (noted_aim (aimed su st x) q c) (k.books q c))) (command_begun su st x) (with_aim (aimed su st x) st).peers q (λ p h. h) (λ p h. h) h

  pub owned_act : (x : Act) → MayAct su st x → Owned su.count (part_act su k x)
  owned_act x may = record { all = act_all su st x h.all; ends = λ q c lq lc. wanted_local x q c (acted (aimed su st x) (act_aim x may) q c lq lc) }

  -- a moment
  moment_all : (turns : ℕ) (b stops : Bool) → AreAll su.count (moment_by su b stops (turned turns st)).peers
  moment_all turns true stops = cold_all st.peers h.all
  moment_all turns false true = h.all
  moment_all turns false false = h.all

  booted : (q c : ℕ) → q < su.count → c < 4 → LocalAt (link_at (booted_peer (peer_of st q)).links c) (k.books q c)
  booted q c lq lc = links_framed (λ e ns. LocalAt e (k.books q c)) (λ c e. just (booted_end e)) (peer_of st q) c (h.all.channels q) lc (boots q c (end_of st q c) (k.books q c) (h.ends q c lq lc))

  moment_ends : (turns : ℕ) (b stops : Bool) (q c : ℕ) → q < su.count → c < 4 → LocalAt (end_of (moment_by su b stops (turned turns st)) q c) (k.books q c)
  moment_ends turns true stops q c lq lc = at_each (λ (p : Peer). LocalAt (link_at p.links c) (k.books q c)) (λ j p. booted_peer p) st.peers q (cold_peer Old) (booted q c lq lc) (λ f. absurd (omega (arith, h.all.partners, f, lq)))
  moment_ends turns false true q c lq lc = h.ends q c lq lc
  moment_ends turns false false q c lq lc = h.ends q c lq lc

  pub owned_moment : (earlier turns : ℕ) → Owned su.count (part_moment su earlier turns k)
  owned_moment earlier turns =
      let now = turned turns st in
      let b = restart_comes su earlier now && not (is_over now) in
      let stops = stop_comes su earlier now && not (is_over now) in
      record { all = moment_all turns b stops; ends = λ q c lq lc. moment_ends turns b stops q c lq lc }

-- the opening
module _ (q c : ℕ) where
  listed : (ls : List SetupLink) (i : ℕ) (l : SetupLink) → slice_get ls i ≡ Some l → l.partner ≡ q → l.channel ≡ c → (m : SetupLink) × (opened_records ls q c ≡ opened_record m ∷ [])
  listed [] i l e f g = absurd (cc)
  listed (x ∷ ls) zero l e f g =
      let same : x ≡ l = cc in
      let t : is_at x q c ≡ true = rw (eq-eqb x.partner q (ap (λ (y : SetupLink). y.partner) same ∙ f), eq-eqb x.channel c (ap (λ (y : SetupLink). y.channel) same ∙ g)) refl in
      (x, rw t refl)
  listed (x ∷ ls) (suc i) l e f g = by (is_at x q c) (listed ls i l e f g) where
    by : (b : Bool) → (m : SetupLink) × (opened_records ls q c ≡ opened_record m ∷ []) → (m : SetupLink) × (cond b (opened_record x ∷ []) (opened_records ls q c) ≡ opened_record m ∷ [])
    by true h = (x, refl)
    by false h = h

  first_live : (new : Bool) (l m : SetupLink) → Live (facts (warm_end new l)) (opened_record m)
  first_live new l m = new_live (facts (warm_end new l)) (opened_record m) (record { ack = refl; pending = refl; get = refl; put = refl; known = refl }) refl refl refl refl refl refl refl

  all_opened : (ls : List SetupLink) → AreDone (opened_records ls q c)
  all_opened [] = tt
  all_opened (x ∷ ls) = by (is_at x q c) (all_opened ls) where
    by : (b : Bool) → AreDone (opened_records ls q c) → AreDone (cond b (opened_record x ∷ []) (opened_records ls q c))
    by true h = (live_done (facts (warm_end false x)) (opened_record x) (first_live false x x), tt)
    by false h = h

  first_local : (s : ScenarioPart) → LocalAt (end_of (opened_state s) q c) (opened_records s.links q c)
  first_local s = elim (opened_or s q c) [
    | inl e ↦ subst (λ (x : End). LocalAt x (opened_records s.links q c)) (sym e) (idle_local (facts idle_end) (opened_records s.links q c) (record { ack = refl; pending = refl; get = refl; put = refl; known = refl }) (all_opened s.links))
    | inr (inl o) ↦
        let new = opened_new s q in
        subst (λ (x : End). LocalAt x (opened_records s.links q c)) (sym o.is) (idle_local (facts (first_met new idle_end)) (opened_records s.links q c) (record { ack = refl; pending = refl; get = refl; put = refl; known = refl }) (all_opened s.links))
    | inr (inr o) ↦
        let new = opened_new s q in
        let k = listed s.links o.at.number o.link o.at.listed o.at.partner o.at.channel in
        subst (λ (x : End). LocalAt x (opened_records s.links q c)) (sym o.is) (subst (λ (rs : List Recorded). LocalAt (warm_end new o.link) rs) (sym k.1) (live_local (facts (warm_end new o.link)) (opened_record k.0) [] (first_live new o.link k.0) tt))
  ]

pub owned_first : (s : ScenarioPart) → Owned s.count (part_opened s)
owned_first s = record { all = start_all s; ends = λ q c lq lc. first_local q c s }
