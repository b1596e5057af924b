-- All ends of a partition after each rule, each act and each moment: the order of each, and that ends without a contact are in none and, as long as their memory isn't being left, are fresh.
use Rattle.std.proofs.Common.{◌≡◌, ℕ, ◌-◌, ◌<◌, ◌≤◌, Bool, true, false, ◌&&◌, not, replicate, cond, eqb, List, [], ◌∷◌, ◌++◌, length, refl, ap, sym, ◌∙◌, subst, arith, inl, inr, ◌⊎◌, Option, Some, None}
use Rattle.std.specs.Prelude.{slice_get, is_some}
use Rattle.std.proofs.lemmas.Bool.{and_parts, cases_lt}
use Rattle.std.proofs.lemmas.List.{get_or_past, get_or-replicate, length-replicate}
use Rattle.xp_base.specs.declared.reason.Reason.{Reason}
use Rattle.xp_base.specs.declared.reason.Reason.TheVariants.{OtherGoingDown}
use Rattle.xp_base.specs.declared.step.Answer.{Answer}
use Rattle.xp_base.specs.declared.step.Answer.TheVariants.{Word, Failed}
use Rattle.xp_base.specs.declared.step.CopyMark.{CopyMark}
use Rattle.xp_base.specs.Kinds.{no_kinds, kinds_in}
use Rattle.xp_base.specs.History.{Act, Begun, Answered, Noticed, NoticeKind, Delivered, Ended}
use Rattle.xp_script.specs.declared.command.Command.{Command}
use Rattle.xp_protocol.specs.declared.contact.PartnerState.TheVariants.{Active}
use Rattle.xp_protocol.specs.declared.rule.PeerRule.{PeerRule}
use Rattle.xp_protocol.specs.declared.rule.PeerRule.TheVariants.{AskActivation, TakeFlags, CloseArea, ZeroMagic, ClearOldBit, Prepare, OpenArea, SetEngagementBit, ReadRecord, StoreEcho, StoreSecond, ClearEngagementBit, LookAtPage, CheckBeat, ClearDeactivationBit, TellPartner}
use Rattle.xp_protocol.specs.declared.rule.OwnRule.TheVariants.{ReadEngaged, TakeDeactivation, ReadStamp, ZeroMask, ZeroOffline, WriteStamp, StoreMask, TakeActivation, StoreBeat, StoreOffline}
use Rattle.xp_protocol.specs.declared.rule.Rule.{Rule}
use Rattle.xp_protocol.specs.declared.rule.Rule.TheVariants.{Link, Peer as ForPeer, Own}
use Rattle.xp_script.specs.declared.part.Link.{Link as SetupLink}
use Rattle.xp_script.specs.declared.part.ScenarioPart.{ScenarioPart}
use Rattle.xp_protocol.specs.Parts.{script_in, IsLawfulPart}
use Rattle.xp_protocol.specs.Effects.{Effect, Note}
use Rattle.xp_protocol.specs.State.{State, End, Peer, Contact, Engage, Area, Reading, Old, Off, Ready, Leaving, cold_peer, idle_end, warm_end, warm_peer, base_peer, opened_state, opened_new, opened_peers, first_peers, first_contact, is_begun, end_of, peer_of, peer_at, link_at, set_link, each}
use Rattle.xp_protocol.specs.Linking.{link_down, link_finished, link_joined, flags_got, booted_end}
use Rattle.xp_protocol.specs.Peering.{Here, same_peer, is_bad_flags, with_flags, is_ready, area_left_for, contact_made, contact_of, try_contact, record_read, peer_can, peer_effect, area_off, peer_read, deactivation_heard, is_left, is_flagged, is_magic, is_wrong, has_shown, with_reason, peer_failed, booted_peer}
use Rattle.xp_protocol.specs.Rules.{Can, here_of, peer_numbered, mark_of, place_for, after_answer, noted_rule, link_answered}
use Rattle.xp_protocol.specs.Acts.{Aim, MayAct, after_act, command_begun, aimed, aim_of, aim_by, EndName, named_end, upcoming, current, end_begun, end_answered, with_aim, noted_aim, end_noticed, without_first}
use Rattle.xp_protocol.specs.declared.rule.AreaWord.{AreaWord}
use Rattle.xp_protocol.specs.declared.rule.AreaWord.TheVariants.{SessionWord, EchoWord, PlaceWord, ArgsWord, FlagWord, CounterWord}
use Rattle.xp_protocol.specs.Runs.{turned, moment_by, restart_comes, stop_comes, is_over, moment}
use Rattle.xp_protocol.proofs.Lawful.{lawful_command}
use Rattle.xp_protocol.proofs.Named.{IsNamed, named_low}
use Rattle.xp_protocol.proofs.Slots.{at_each, at_peer, at_slot}
use Rattle.xp_protocol.proofs.Frames.{AreAll, links_framed, peers_framed, link_frame, peer_frame, aim_frame, rule_all, act_all, cold_all, wanted_at, idle_at}
use Rattle.xp_protocol.proofs.Opened.{start_all, opened_fact}
use Rattle.xp_records.proofs.Flow.{Flow, FlowAt, RegisteredAt, Sends, calm_sends}
use Rattle.xp_records.proofs.Changes.{Orders, Order, order_same, linked_order, takes, takes_order, goes_down, down_order, finishes, finished_order, joins, joined_order, boots, begun_order, answered_order}
use Rattle.xp_records.proofs.Commands.{Still, begun_still, answered_still, noticed_still}

abbrev is_leaving : Area → Bool
is_leaving Old = false
is_leaving Off = false
is_leaving Ready = false
is_leaving Leaving = true

-- the own memory for a partner, the contact with it, and the ends
pub record Away (area : Area) (met : Option Contact) (links : List End) : Type 0 where
  pub contact : is_ready area ≡ false → met ≡ None
  pub apart : met ≡ None → (c : ℕ) → c < 4 → (link_at links c).shake.meet ≡ None
  pub fresh : is_leaving area ≡ false → met ≡ None → (c : ℕ) → c < 4 → is_begun (link_at links c) ≡ false

abbrev pub AwayAt : Peer → Type 0
AwayAt p = Away p.engage.area p.contact p.links

in_contact : (area : Area) (o : Option Contact) (links : List End) → is_some o ≡ true → (is_ready area ≡ false → o ≡ None) → Away area o links
in_contact area None links t h = absurd (cc)
in_contact area (Some m) links t h = record { contact = h; apart = λ n. absurd (cc); fresh = λ l n. absurd (cc) }

cond_away : (b : Bool) (f g : Effect Peer (ℕ → List Note)) → AwayAt f.local → AwayAt g.local → AwayAt (cond b f g).local
cond_away true f g x y = x
cond_away false f g x y = y

not_ready : (x : Engage) → is_left x ≡ true → is_ready x.area ≡ false
not_ready x t = by x.area x.bit t where
  by : (a : Area) (b : Bool) → is_left (record x { area = a; bit = b }) ≡ true → is_ready a ≡ false
  by Old b h = refl
  by Off b h = refl
  by Ready b h = absurd (cc)
  by Leaving b h = refl

module _ (y : Here) (p : Peer) (n : length p.links ≡ 4) (old : AwayAt p) where
  each_link : (f : ℕ → End → Effect End (List Note)) (P : End → Type 0) → ((c : ℕ) → P (f c (link_at p.links c)).local) → (c : ℕ) → c < 4 → P (link_at (each (λ c e. (f c e).local) 0 p.links) c)
  each_link f P h c l = at_each P (λ c e. (f c e).local) p.links c idle_end (h c) (λ m. absurd (omega (arith, n, m, l)))

  meets : (z : Peer) → z.links ≡ p.links → z.contact ≡ p.contact → z.engage.area ≡ p.engage.area → p.engage.area ≡ Ready → AwayAt (try_contact y.turn y.stamp z).local
  meets z el ec ea ready =
      let now : AwayAt z = subst (λ (a : Area). Away a z.contact z.links) (sym ea) (subst (λ (o : Option Contact). Away p.engage.area o z.links) (sym ec) (subst (λ (ls : List End). Away p.engage.area p.contact ls) (sym el) old)) in
      cond_away (z.engage.second && (z.engage.shown && not (is_some z.contact))) (contact_made y.turn y.stamp z) (same_peer z)
      (record { contact = λ r. (let t : is_ready z.engage.area ≡ true = ap is_ready (ea ∙ ready) in absurd (cc)); apart = λ m. absurd (cc); fresh = λ l m. absurd (cc) }) now

  read_away : (o : Option Reading) (w : ℕ) → p.engage.area ≡ Ready → AwayAt (record_read y p o w).local
  read_away None w r = cond_away (eqb w 0) _ _ old (cond_away (is_magic w) _ _ old old)
  read_away (Some x) w r =
      cond_away (eqb x.done 1) _ _ old (cond_away (eqb x.done 2) _ _ old (cond_away (eqb x.done 7) _ _
      (cond_away (has_shown y.stamp p.engage x) _ _ (meets (record p { engage = record p.engage { shown = true; reading = None } }) refl refl refl r) old)
      (cond_away (is_wrong y.part x.done w) _ _ old old)))

  down_meet : (reason : Reason) (e : End) → (link_down reason e).local.shake.meet ≡ None
  down_meet reason e = refl

  left_away : (o : Option Reason) → is_some o ≡ true → AwayAt (area_left_for o p).local
  left_away None t = absurd (cc)
  left_away (Some reason) t = record { contact = λ r. refl; apart = λ m. each_link (λ c e. link_down reason e) (λ e. e.shake.meet ≡ None) (λ c. down_meet reason (link_at p.links c)); fresh = λ l. absurd (cc) }

  peered_away : (m : PeerRule) (w : ℕ) → peer_can y p m → AwayAt (peer_effect y p m w).local
  peered_away AskActivation w can = old
  peered_away TakeFlags w can = cond_away (is_bad_flags w) _ _ old (in_contact p.engage.area p.contact _ can.0 old.contact)
  peered_away CloseArea w can = left_away p.engage.reason can.1
  peered_away ZeroMagic w can = old
  peered_away ClearOldBit w can = old
  peered_away (Prepare x) w can = prepared_away x where
    prepared_away : (x : AreaWord) → AwayAt (peer_effect y p (Prepare x) w).local
    prepared_away SessionWord = old
    prepared_away EchoWord = old
    prepared_away FlagWord = old
    prepared_away (PlaceWord z) = old
    prepared_away (ArgsWord c f) = old
    prepared_away (CounterWord c f) = old
  peered_away OpenArea w can = record { contact = λ r. absurd (cc); apart = old.apart; fresh = λ l m. old.fresh (ap is_leaving can.0) m }
  peered_away SetEngagementBit w can = old
  peered_away ReadRecord w can = read_away p.engage.reading w can.0
  peered_away StoreEcho w can = old
  peered_away StoreSecond w can = meets (record p { engage = record p.engage { second = true } }) refl refl refl can.0
  peered_away ClearEngagementBit w can = old
  peered_away LookAtPage w can = cond_away (eqb (length (p.paging ++ w ∷ [])) 5) _ _ old old
  peered_away CheckBeat w can = old
  peered_away ClearDeactivationBit w can = old
  peered_away TellPartner w can = old

  failed_away : (mark : Option CopyMark) → AwayAt (peer_failed y.turn mark p)
  failed_away None = old
  failed_away (Some mark) = old

  freed_away : (w q : ℕ) → AwayAt (peer_read w q p).local
  freed_away w q = cond_away (is_left p.engage && not (is_flagged w q)) (area_off p) (same_peer p) (record { contact = λ r. refl; apart = λ m. each_link (λ c e. link_finished e) (λ e. e.shake.meet ≡ None) (λ c. refl); fresh = λ l m. each_link (λ c e. link_finished e) (λ e. is_begun e ≡ false) (λ c. refl) }) old

  told_away : (w q : ℕ) → AwayAt (deactivation_heard w q p).local
  told_away w q = by (is_some p.engage.echo && is_flagged w q) where
    by : (b : Bool) → AwayAt (cond b (with_reason (Some (OtherGoingDown w)) p) p)
    by true = old
    by false = old

booted_away : (p : Peer) → AwayAt (booted_peer p)
booted_away p = record { contact = λ r. refl; apart = λ m c l. at_each (λ (e : End). e.shake.meet ≡ None) (λ c e. booted_end e) p.links c idle_end refl (λ z. refl); fresh = λ l m c k. at_each (λ (e : End). is_begun e ≡ false) (λ c e. booted_end e) p.links c idle_end refl (λ z. refl) }

idle_away : (a : Area) → AwayAt (cold_peer a)
idle_away a = record { contact = λ r. refl; apart = λ m c l. subst (λ (e : End). e.shake.meet ≡ None) (sym (idle_at c)) refl; fresh = λ l m c k. subst (λ (e : End). is_begun e ≡ false) (sym (idle_at c)) refl }

-- all ends of a partition
pub record Ordered (n : ℕ) (st : State) : Type 0 where
  pub all : AreAll n st.peers
  pub flows : (q c : ℕ) → q < n → c < 4 → FlowAt (end_of st q c)
  pub registered : (q c : ℕ) → q < n → c < 4 → RegisteredAt (end_of st q c)
  pub away : (q : ℕ) → q < n → AwayAt (peer_of st q)

both_true : (a b z : Bool) → (a && (b && not z)) ≡ true → z ≡ false
both_true true true false h = refl
both_true true true true h = absurd (cc)
both_true true false z h = absurd (cc)
both_true false b z h = absurd (cc)

none_by : (o : Option Contact) → is_some o ≡ false → o ≡ None
none_by None h = refl
none_by (Some m) h = absurd (cc)

-- one end of one partner, after a step for it
module _ (q c : ℕ) (lc : c < 4) (y : Here) (p : Peer) (n : length p.links ≡ 4) (w : FlowAt (link_at p.links c)) (far : AwayAt p) where
  abbrev Q : End → List Note → Type 0
  Q e ns = Orders q c (link_at p.links c) e ns × Sends (link_at p.links c) e

  abbrev In : Effect Peer (ℕ → List Note) → Type 0
  In h = Q (link_at h.local.links c) (h.notes c)

  cond_in : (b : Bool) (f g : Effect Peer (ℕ → List Note)) → (b ≡ true → In f) → (b ≡ false → In g) → In (cond b f g)
  cond_in true f g x z = x refl
  cond_in false f g x z = z refl

  same : Q (link_at p.links c) []
  same = (order_same q c (link_at p.links c) w, calm_sends (link_at p.links c) (link_at p.links c) refl)

  joins_in : (z : Peer) → z.links ≡ p.links → z.contact ≡ p.contact → p.engage.area ≡ Ready → In (try_contact y.turn y.stamp z)
  joins_in z el ec ready =
      cond_in (z.engage.second && (z.engage.shown && not (is_some z.contact))) (contact_made y.turn y.stamp z) (same_peer z)
      (λ t.
      let alone : p.contact ≡ None = sym ec ∙ none_by z.contact (both_true z.engage.second z.engage.shown (is_some z.contact) t) in
      let fresh = far.fresh (ap is_leaving ready) alone c lc in
      let new : Peer = record z { contact = Some (contact_of y.stamp z.engage); engage = record z.engage { state = Active } } in
      let f : ℕ → End → Effect End (List Note) = λ c e. link_joined z.both_new (contact_of y.stamp z.engage) e in
      let j : Q (link_joined z.both_new (contact_of y.stamp z.engage) (link_at p.links c)).local (link_joined z.both_new (contact_of y.stamp z.engage) (link_at p.links c)).notes = (joined_order q c z.both_new (contact_of y.stamp z.engage) (link_at p.links c) fresh w, (joins q c z.both_new (contact_of y.stamp z.engage) (link_at p.links c) fresh w).sends) in
      links_framed Q f new c (ap length el ∙ n) lc (subst (λ (ls : List End). Q (f c (link_at ls c)).local (f c (link_at ls c)).notes) (sym el) j))
      (λ t. subst (λ (ls : List End). Q (link_at ls c) []) (sym el) same)

  read_in : (o : Option Reading) (v : ℕ) → p.engage.area ≡ Ready → In (record_read y p o v)
  read_in None v r = cond_in (eqb v 0) _ _ (λ t. same) (λ t. cond_in (is_magic v) _ _ (λ t. same) (λ t. same))
  read_in (Some x) v r =
      cond_in (eqb x.done 1) _ _ (λ t. same) (λ t. cond_in (eqb x.done 2) _ _ (λ t. same) (λ t. cond_in (eqb x.done 7) _ _
      (λ t. cond_in (has_shown y.stamp p.engage x) _ _ (λ t. joins_in (record p { engage = record p.engage { shown = true; reading = None } }) refl refl r) (λ t. same))
      (λ t. cond_in (is_wrong y.part x.done v) _ _ (λ t. same) (λ t. same))))

  left_in : (o : Option Reason) → In (area_left_for o p)
  left_in None = same
  left_in (Some reason) = links_framed Q (λ c e. link_down reason e) p c n lc (down_order q c reason (link_at p.links c) w, (goes_down q c reason (link_at p.links c) w).sends)

  peered : (m : PeerRule) (v : ℕ) → peer_can y p m → In (peer_effect y p m v)
  peered TakeFlags v can = cond_in (is_bad_flags v) _ _ (λ t. same) (λ t. links_framed Q (λ c e. flags_got (kinds_in v c) e) (with_flags v p) c n lc (takes_order q c (kinds_in v c) (link_at p.links c) w, (takes q c (kinds_in v c) (link_at p.links c) w).sends))
  peered CloseArea v can = left_in p.engage.reason
  peered ReadRecord v can = read_in p.engage.reading v can.0
  peered StoreSecond v can = joins_in (record p { engage = record p.engage { second = true } }) refl refl can.0
  peered AskActivation v can = same
  peered ZeroMagic v can = same
  peered ClearOldBit v can = same
  peered (Prepare x) v can = same
  peered OpenArea v can = same
  peered SetEngagementBit v can = same
  peered StoreEcho v can = same
  peered ClearEngagementBit v can = same
  peered LookAtPage v can = cond_in (eqb (length (p.paging ++ v ∷ [])) 5) _ _ (λ t. same) (λ t. same)
  peered CheckBeat v can = same
  peered ClearDeactivationBit v can = same
  peered TellPartner v can = same

  freed : (v k : ℕ) → In (peer_read v k p)
  freed v k = cond_in (is_left p.engage && not (is_flagged v k)) (area_off p) (same_peer p)
      (λ t.
      let left = (and_parts (is_left p.engage) _ t).0 in
      let apart = far.apart (far.contact (not_ready p.engage left)) c lc in
      links_framed Q (λ c e. link_finished e) p c n lc (finished_order q c (link_at p.links c) apart w, (finishes q c (link_at p.links c) apart w).sends))
      (λ t. same)

  told : (v k : ℕ) → In (deactivation_heard v k p)
  told v k = by (is_some p.engage.echo && is_flagged v k) where
    by : (b : Bool) → In (same_peer (cond b (with_reason (Some (OtherGoingDown v)) p) p))
    by true = same
    by false = same

  failed : (mark : Option CopyMark) → Q (link_at (peer_failed y.turn mark p).links c) []
  failed None = same
  failed (Some mark) = same

numbered_links : (mark : Option CopyMark) (p : Peer) → (peer_numbered mark p).links ≡ p.links
numbered_links None p = refl
numbered_links (Some mark) p = refl

numbered_away : (mark : Option CopyMark) (p : Peer) → AwayAt p → AwayAt (peer_numbered mark p)
numbered_away None p h = h
numbered_away (Some mark) p h = h

numbered_can : (y : Here) (mark : Option CopyMark) (p : Peer) (m : PeerRule) → peer_can y p m → peer_can y (peer_numbered mark p) m
numbered_can y None p m h = h
numbered_can y (Some mark) p AskActivation h = h
numbered_can y (Some mark) p TakeFlags h = h
numbered_can y (Some mark) p CloseArea h = h
numbered_can y (Some mark) p ZeroMagic h = h
numbered_can y (Some mark) p ClearOldBit h = h
numbered_can y (Some mark) p (Prepare x) h = h
numbered_can y (Some mark) p OpenArea h = h
numbered_can y (Some mark) p SetEngagementBit h = h
numbered_can y (Some mark) p ReadRecord h = h
numbered_can y (Some mark) p StoreEcho h = h
numbered_can y (Some mark) p StoreSecond h = h
numbered_can y (Some mark) p ClearEngagementBit h = h
numbered_can y (Some mark) p LookAtPage h = h
numbered_can y (Some mark) p CheckBeat h = h
numbered_can y (Some mark) p ClearDeactivationBit h = h
numbered_can y (Some mark) p TellPartner h = h

abbrev pub IsWide : Rule → Type 0
IsWide (Link j d m) = ⊥
IsWide r = Unit {0}

abbrev pub IsCommand : Act → Type 0
IsCommand Begun = Unit {0}
IsCommand Answered = Unit {0}
IsCommand (Noticed q c number how) = ⊥

module _ (su : ScenarioPart) (law : IsLawfulPart su) (st : State) (h : Ordered su.count st) where
  -- a rule
  ruled_peer : (j : ℕ) (m : PeerRule) (v : ℕ) → peer_can (here_of su st j) (peer_of st j) m → (c : ℕ) → c < 4 → j < su.count → (q : ℕ) → (let f = peer_effect (here_of su st j) (peer_numbered (mark_of su st (ForPeer j m)) (peer_of st j)) m v in Orders q c (end_of st j c) (link_at f.local.links c) (f.notes c) × Sends (end_of st j c) (link_at f.local.links c))
  ruled_peer j m v can c lc lj q =
      let mark = mark_of su st (ForPeer j m) in
      let p = peer_numbered mark (peer_of st j) in
      let ls = numbered_links mark (peer_of st j) in
      let f = peer_effect (here_of su st j) p m v in
      subst (λ (e : End). Orders q c e (link_at f.local.links c) (f.notes c) × Sends e (link_at f.local.links c)) (ap (λ (xs : List End). link_at xs c) ls)
      (peered q c lc (here_of su st j) p (ap length ls ∙ h.all.channels j) (subst (λ (xs : List End). FlowAt (link_at xs c)) (sym ls) (h.flows j c lj lc)) (numbered_away mark (peer_of st j) (h.away j lj)) m v (numbered_can (here_of su st j) mark (peer_of st j) m can))

  -- of every step but one at an end: what it keeps, and what becomes of the send in progress
  abbrev Both : ℕ → ℕ → End → List Note → Type 0
  Both q c e ns = Orders q c (end_of st q c) e ns × Sends (end_of st q c) e

  both_same : (q c : ℕ) → q < su.count → c < 4 → Both q c (end_of st q c) []
  both_same q c lq lc = (order_same q c (end_of st q c) (h.flows q c lq lc), calm_sends (end_of st q c) (end_of st q c) refl)

  rule_both : (r : Rule) (a : Answer) → IsWide r → Can su st r → (q c : ℕ) → q < su.count → c < 4 → Both q c (end_of (after_answer su st r a) q c) (noted_rule su st r a q c)
  rule_both (Link j d m) a is can q c lq lc = absurd is
  rule_both (ForPeer j m) (Word v) is can q c lq lc =
      let f = peer_effect (here_of su st j) (peer_numbered (mark_of su st (ForPeer j m)) (peer_of st j)) m v in
      peer_frame (λ e ns. Both q c e ns) su st j m (Word v) q c h.all can.1.0.low
      (λ e. subst (λ (x : ℕ). Orders q c (end_of st x c) (link_at f.local.links c) (f.notes c) × Sends (end_of st x c) (link_at f.local.links c)) e (ruled_peer j m v can.1.1 c lc can.1.0.low q)) (λ o. both_same q c lq lc)
  rule_both (ForPeer j m) Failed is can q c lq lc =
      let mark = mark_of su st (ForPeer j m) in
      peer_frame (λ e ns. Both q c e ns) su st j m Failed q c h.all can.1.0.low
      (λ e. subst (λ (x : ℕ). Orders q c (end_of st x c) (link_at (peer_failed (here_of su st j).turn mark (peer_of st j)).links c) [] × Sends (end_of st x c) (link_at (peer_failed (here_of su st j).turn mark (peer_of st j)).links c)) e (failed q c lc (here_of su st j) (peer_of st j) (h.all.channels j) (h.flows j c can.1.0.low lc) (h.away j can.1.0.low) mark)) (λ o. both_same q c lq lc)
  rule_both (Own ReadEngaged) (Word v) is can q c lq lc = peers_framed (λ e ns. Both q c e ns) (peer_read v) st.peers q c h.all lq (freed q c lc (here_of su st q) (peer_at st.peers q) (h.all.channels q) (h.flows q c lq lc) (h.away q lq) v q)
  rule_both (Own TakeDeactivation) (Word v) is can q c lq lc = peers_framed (λ e ns. Both q c e ns) (deactivation_heard v) st.peers q c h.all lq (told q c lc (here_of su st q) (peer_at st.peers q) (h.all.channels q) (h.flows q c lq lc) (h.away q lq) v q)
  rule_both (Own ReadStamp) (Word v) is can q c lq lc = both_same q c lq lc
  rule_both (Own ZeroMask) (Word v) is can q c lq lc = both_same q c lq lc
  rule_both (Own ZeroOffline) (Word v) is can q c lq lc = both_same q c lq lc
  rule_both (Own WriteStamp) (Word v) is can q c lq lc = both_same q c lq lc
  rule_both (Own StoreMask) (Word v) is can q c lq lc = both_same q c lq lc
  rule_both (Own TakeActivation) (Word v) is can q c lq lc = both_same q c lq lc
  rule_both (Own StoreBeat) (Word v) is can q c lq lc = both_same q c lq lc
  rule_both (Own StoreOffline) (Word v) is can q c lq lc = both_same q c lq lc
  rule_both (Own m) Failed is can q c lq lc = both_same q c lq lc

  pub rule_sends : (r : Rule) (a : Answer) → IsWide r → Can su st r → (q c : ℕ) → q < su.count → c < 4 → Sends (end_of st q c) (end_of (after_answer su st r a) q c)
  rule_sends r a is can q c lq lc = (rule_both r a is can q c lq lc).1

  pub rule_orders : (r : Rule) (a : Answer) → Can su st r → (q c : ℕ) → q < su.count → c < 4 → Orders q c (end_of st q c) (end_of (after_answer su st r a) q c) (noted_rule su st r a q c)
  rule_orders (Link j d m) a can q c lq lc =
      let f = link_answered (mark_of su st (Link j d m)) (place_for su d) (end_of st j d) m a in
      link_frame (λ e ns. Orders q c (end_of st q c) e ns) su st j d m a q c h.all can.1.0.peer.0 can.1.0.peer.2
      (λ e g. subst (λ (x : ℕ). Orders q c (end_of st x c) f.local f.notes) e (subst (λ (x : ℕ). Orders q c (end_of st j x) f.local f.notes) g (linked_order q c (mark_of su st (Link j d m)) (place_for su d) (end_of st j d) m a can.1.1 (h.flows j d can.1.0.peer.0 can.1.0.peer.2))))
      (λ o. order_same q c (end_of st q c) (h.flows q c lq lc))
  rule_orders (ForPeer j m) a can q c lq lc = (rule_both (ForPeer j m) a tt can q c lq lc).0
  rule_orders (Own m) a can q c lq lc = (rule_both (Own m) a tt can q c lq lc).0

  rule_away : (r : Rule) (a : Answer) → Can su st r → (q : ℕ) → q < su.count → AwayAt (peer_of (after_answer su st r a) q)
  rule_away (Link j d m) a can q lq =
      let f = link_answered (mark_of su st (Link j d m)) (place_for su d) (end_of st j d) m a in
      at_peer AwayAt st.peers j _ q (λ e. in_contact (peer_of st j).engage.area (peer_of st j).contact _ can.1.0.contact (h.away j can.1.0.peer.0).contact) (h.away q lq)
  rule_away (ForPeer j m) (Word v) can q lq =
      let mark = mark_of su st (ForPeer j m) in
      let p = peer_numbered mark (peer_of st j) in
      at_peer AwayAt st.peers j _ q (λ e. peered_away (here_of su st j) p (ap length (numbered_links mark (peer_of st j)) ∙ h.all.channels j) (numbered_away mark (peer_of st j) (h.away j can.1.0.low)) m v (numbered_can (here_of su st j) mark (peer_of st j) m can.1.1)) (h.away q lq)
  rule_away (ForPeer j m) Failed can q lq = at_peer AwayAt st.peers j _ q (λ e. failed_away (here_of su st j) (peer_of st j) (h.all.channels j) (h.away j can.1.0.low) (mark_of su st (ForPeer j m))) (h.away q lq)
  rule_away (Own ReadEngaged) (Word v) can q lq = at_each AwayAt (λ k p. (peer_read v k p).local) st.peers q (cold_peer Old) (freed_away (here_of su st q) (peer_of st q) (h.all.channels q) (h.away q lq) v q) (λ l. idle_away Old)
  rule_away (Own TakeDeactivation) (Word v) can q lq = at_each AwayAt (λ k p. (deactivation_heard v k p).local) st.peers q (cold_peer Old) (told_away (here_of su st q) (peer_of st q) (h.all.channels q) (h.away q lq) v q) (λ l. idle_away Old)
  rule_away (Own ReadStamp) (Word v) can q lq = h.away q lq
  rule_away (Own ZeroMask) (Word v) can q lq = h.away q lq
  rule_away (Own ZeroOffline) (Word v) can q lq = h.away q lq
  rule_away (Own WriteStamp) (Word v) can q lq = h.away q lq
  rule_away (Own StoreMask) (Word v) can q lq = h.away q lq
  rule_away (Own TakeActivation) (Word v) can q lq = h.away q lq
  rule_away (Own StoreBeat) (Word v) can q lq = h.away q lq
  rule_away (Own StoreOffline) (Word v) can q lq = h.away q lq
  rule_away (Own m) Failed can q lq = h.away q lq

  pub ordered_rule : (r : Rule) (a : Answer) → Can su st r → Ordered su.count (after_answer su st r a)
  ordered_rule r a can = record {
    all = rule_all su st r a h.all;
    flows = λ q c lq lc. (rule_orders r a can q c lq lc).flow;
    registered = λ q c lq lc. (rule_orders r a can q c lq lc).registered (h.registered q c lq lc);
    away = λ q lq. rule_away r a can q lq;
  }

  -- an act: of a command its end keeps the order, and a notice takes a number from it
  abbrev AimKeeps : Option Aim → Type 0
  AimKeeps None = Unit {0}
  AimKeeps (Some y) = (y.partner < su.count) × (y.channel < 4) × ((q c : ℕ) → Order q c (end_of st y.partner y.channel) y.effect) × Still (end_of st y.partner y.channel) y.effect

  aim_orders : (x : Option Aim) → AimKeeps x → (q c : ℕ) → q < su.count → c < 4 → Orders q c (end_of st q c) (end_of (with_aim x st) q c) (noted_aim x q c)
  aim_orders None b q c lq lc = order_same q c (end_of st q c) (h.flows q c lq lc)
  aim_orders (Some y) b q c lq lc = aim_frame (λ e ns. Orders q c (end_of st q c) e ns) st y q c h.all b.0 b.1
      (λ e g. subst (λ (x : ℕ). Orders q c (end_of st x c) y.effect.local y.effect.notes) e (subst (λ (x : ℕ). Orders q c (end_of st y.partner x) y.effect.local y.effect.notes) g (b.2 q c)))
      (order_same q c (end_of st q c) (h.flows q c lq lc))

  still_away : (k d : ℕ) (f : Effect End (List Note)) → k < su.count → Still (end_of st k d) f → AwayAt (set_link (peer_of st k) d f.local)
  still_away k d f lk s =
      let old = h.away k lk in
      let x = f.local in
      record {
        contact = old.contact;
        apart = λ m c l. at_slot (λ (e : End). e.shake.meet ≡ None) (peer_of st k).links d c x idle_end (λ e. s.0 ∙ subst (λ (j : ℕ). (end_of st k j).shake.meet ≡ None) e (old.apart m c l)) (old.apart m c l);
        fresh = λ r m c l. at_slot (λ (e : End). is_begun e ≡ false) (peer_of st k).links d c x idle_end (λ e. s.1 (subst (λ (j : ℕ). is_begun (end_of st k j) ≡ false) e (old.fresh r m c l))) (old.fresh r m c l);
      }

  aim_away : (x : Option Aim) → AimKeeps x → (q : ℕ) → q < su.count → AwayAt (peer_of (with_aim x st) q)
  aim_away None b q lq = h.away q lq
  aim_away (Some y) b q lq = at_peer AwayAt st.peers y.partner _ q (λ e. still_away y.partner y.channel y.effect b.0 b.3) (h.away q lq)

  begun_by : (x : Command) (o : Option EndName) → IsNamed su.count o → AimKeeps (aim_by st end_begun x o)
  begun_by x None b = tt
  begun_by x (Some n) b = (b.0, b.1, λ q c. begun_order q c (end_of st n.partner n.channel) x (h.flows n.partner n.channel b.0 b.1), begun_still (end_of st n.partner n.channel) x)

  begun_aim : (o : Option Command) (i : ℕ) → slice_get (script_in su st.clock.boots) i ≡ o → AimKeeps (aim_of st end_begun o)
  begun_aim None i e = tt
  begun_aim (Some x) i e = begun_by x (named_end x) (named_low su x (lawful_command su st.clock.boots i x law e))

  answered_by_end : (x : Command) (o : Option EndName) → IsNamed su.count o → AimKeeps (aim_by st end_answered x o)
  answered_by_end x None b = tt
  answered_by_end x (Some n) b = (b.0, b.1, λ q c. answered_order q c (end_of st n.partner n.channel) x (h.flows n.partner n.channel b.0 b.1), answered_still (end_of st n.partner n.channel) x)

  answered_aim : (o : Option Command) (i : ℕ) → slice_get (script_in su st.clock.boots) i ≡ o → AimKeeps (aim_of st end_answered o)
  answered_aim None i e = tt
  answered_aim (Some x) i e = answered_by_end x (named_end x) (named_low su x (lawful_command su st.clock.boots i x law e))

  act_aim : (x : Act) → IsCommand x → AimKeeps (aimed su st x)
  act_aim Begun is = begun_aim (upcoming su st) st.script.begun refl
  act_aim Answered is = answered_aim (current su st) (st.script.begun - 1) refl
  act_aim (Noticed q c number how) is = absurd is

  wanted_end : (P : End → Type 0) (x : Act) (q c : ℕ) → P (end_of (with_aim (aimed su st x) st) q c) → P (end_of (after_act su st x) q c)
  wanted_end P x q c k = wanted_at (λ (p : Peer). P (link_at p.links c)) (command_begun su st x) (with_aim (aimed su st x) st).peers q (λ p h. h) (λ p h. h) k

  wanted_away : (x : Act) (q : ℕ) → AwayAt (peer_of (with_aim (aimed su st x) st) q) → AwayAt (peer_of (after_act su st x) q)
  wanted_away x q k = wanted_at AwayAt (command_begun su st x) (with_aim (aimed su st x) st).peers q (λ p h. h) (λ p h. h) k

  pub act_orders : (x : Act) → IsCommand x → (q c : ℕ) → q < su.count → c < 4 → Orders q c (end_of st q c) (end_of (after_act su st x) q c) (noted_aim (aimed su st x) q c)
  act_orders x is q c lq lc = wanted_end (λ (e : End). Orders q c (end_of st q c) e (noted_aim (aimed su st x) q c)) x q c (aim_orders (aimed su st x) (act_aim x is) q c lq lc)

  noticed_flow : (how : NoticeKind) (number : ℕ) (e : End) → FlowAt e → FlowAt (end_noticed how number e).local
  noticed_flow Ended number e w = w
  noticed_flow Delivered number e w = record { sent_reply = w.sent_reply; sent_request = w.sent_request; got_reply = w.got_reply; got_request = w.got_request; close_request = w.close_request; close_reply = w.close_reply; away = w.away; unbegun = λ z. ap without_first (w.unbegun z); sends = w.sends; agreed = w.agreed; fresh_send = w.fresh_send; fresh_pull = w.fresh_pull }

  noticed_registered : (how : NoticeKind) (number : ℕ) (e : End) → RegisteredAt e → RegisteredAt (end_noticed how number e).local
  noticed_registered Ended number e h = h
  noticed_registered Delivered number e h = h

  ordered_noticed : (k d number : ℕ) (how : NoticeKind) → (k < su.count) × (d < 4) → Ordered su.count (after_act su st (Noticed k d number how))
  ordered_noticed k d number how low =
      let e = end_of st k d in
      let y : Aim = record { partner = k; channel = d; effect = end_noticed how number e } in
      record {
        all = act_all su st (Noticed k d number how) h.all;
        flows = λ q c lq lc. aim_frame (λ e ns. FlowAt e) st y q c h.all low.0 low.1 (λ f g. noticed_flow how number e (h.flows k d low.0 low.1)) (h.flows q c lq lc);
        registered = λ q c lq lc. aim_frame (λ e ns. RegisteredAt e) st y q c h.all low.0 low.1 (λ f g. noticed_registered how number e (h.registered k d low.0 low.1)) (h.registered q c lq lc);
        away = λ q lq. at_peer AwayAt st.peers k _ q (λ f. still_away k d (end_noticed how number e) low.0 (noticed_still how number e)) (h.away q lq);
      }

  ordered_command : (x : Act) → IsCommand x → Ordered su.count (after_act su st x)
  ordered_command x is = record {
    all = act_all su st x h.all;
    flows = λ q c lq lc. (act_orders x is q c lq lc).flow;
    registered = λ q c lq lc. (act_orders x is q c lq lc).registered (h.registered q c lq lc);
    away = λ q lq. wanted_away x q (aim_away (aimed su st x) (act_aim x is) q lq);
  }

  pub ordered_act : (x : Act) → MayAct su st x → Ordered su.count (after_act su st x)
  ordered_act Begun may = ordered_command Begun tt
  ordered_act Answered may = ordered_command Answered tt
  ordered_act (Noticed k d number how) may = ordered_noticed k d number how (may.1.0, may.1.1)

  -- a moment
  moment_all : (turns : ℕ) (b stops : Bool) → Ordered su.count (moment_by su b stops (turned turns st))
  moment_all turns true stops = record {
    all = cold_all st.peers h.all;
    flows = λ q c lq lc. booted_end_at (λ e. FlowAt e) (λ i j. boots i j (end_of st i j)) q c lq lc;
    registered = λ q c lq lc. booted_end_at (λ e. RegisteredAt e) (λ i j a b. absurd (cc)) q c lq lc;
    away = λ q lq. at_each AwayAt (λ j p. booted_peer p) st.peers q (cold_peer Old) (booted_away (peer_of st q)) (λ l. idle_away Old);
  } where
    booted_end_at : (P : End → Type 0) → ((q c : ℕ) → P (booted_end (end_of st q c))) → (q c : ℕ) → q < su.count → c < 4 → P (link_at (peer_at (each (λ j p. booted_peer p) 0 st.peers) q).links c)
    booted_end_at P new q c lq lc = at_each (λ (p : Peer). P (link_at p.links c)) (λ j p. booted_peer p) st.peers q (cold_peer Old) (at_each P (λ c e. booted_end e) (peer_of st q).links c idle_end (new q c) (λ l. absurd (omega (arith, h.all.channels q, l, lc)))) (λ l. absurd (omega (arith, h.all.partners, l, lq)))
  moment_all turns false true = record { all = h.all; flows = h.flows; registered = h.registered; away = h.away }
  moment_all turns false false = record { all = h.all; flows = h.flows; registered = h.registered; away = h.away }

  pub ordered_moment : (earlier turns : ℕ) → Ordered su.count (moment su earlier (turned turns st))
  ordered_moment earlier turns =
      let now = turned turns st in
      moment_all turns (restart_comes su earlier now && not (is_over now)) (stop_comes su earlier now && not (is_over now))

-- the opening
opened_away : (new : ℕ → Bool) (ls : List SetupLink) (peers : List Peer) → ((q : ℕ) → AwayAt (peer_at peers q)) → (q : ℕ) → AwayAt (peer_at (opened_peers new ls peers) q)
opened_away new [] peers h = h
opened_away new (l ∷ ls) peers h = opened_away new ls _ (λ q. at_peer AwayAt peers l.partner (warm_peer (new l.partner) l (peer_at peers l.partner)) q (λ e. record { contact = λ r. absurd (cc); apart = λ m. absurd (cc); fresh = λ z m. absurd (cc) }) (h q))

base_away : (ls : List SetupLink) → AwayAt (base_peer ls)
base_away [] = idle_away Old
base_away (l ∷ ls) = idle_away Off

first_away : (n : ℕ) (ls : List SetupLink) (q : ℕ) → AwayAt (peer_at (first_peers n ls) q)
unfolding first_peers
first_away n ls q = by (cases_lt q n) where
  by : (q < n) ⊎ (n ≤ q) → AwayAt (peer_at (replicate n (base_peer ls)) q)
  by (inl l) = subst AwayAt (sym (get_or-replicate n q (base_peer ls) (cold_peer Old) l)) (base_away ls)
  by (inr l) = subst AwayAt (sym (get_or_past (replicate n (base_peer ls)) q (cold_peer Old) (omega (arith, length-replicate {A = Peer} n (base_peer ls), l)))) (idle_away Old)

warm_flow : (new : Bool) (l : SetupLink) → FlowAt (warm_end new l)
warm_flow new l = record { sent_reply = λ t. refl; sent_request = λ t. refl; got_reply = λ t. refl; got_request = λ t. refl; close_request = λ t. absurd (cc); close_reply = λ t. absurd (cc); away = λ m. absurd (cc); unbegun = λ z. refl; sends = λ t. absurd (cc); agreed = λ t. refl; fresh_send = λ t. refl; fresh_pull = λ t. refl }

idle_flow : (m : Option Contact) → Flow m None no_kinds no_kinds [] idle_end.sides.send idle_end.sides.pull
idle_flow m = record { sent_reply = λ t. absurd (cc); sent_request = λ t. absurd (cc); got_reply = λ t. absurd (cc); got_request = λ t. absurd (cc); close_request = λ t. absurd (cc); close_reply = λ t. absurd (cc); away = λ n t. absurd (cc); unbegun = λ z. refl; sends = λ t. absurd (cc); agreed = λ t. absurd (cc); fresh_send = λ t. refl; fresh_pull = λ t. refl }

pub ordered_first : (su : ScenarioPart) → Ordered su.count (opened_state su)
ordered_first su = record {
  all = start_all su;
  flows = λ q c lq lc. opened_fact su q c (λ e. FlowAt e) (idle_flow None) (λ new. idle_flow (Some first_contact)) warm_flow;
  registered = λ q c lq lc. opened_fact su q c (λ e. RegisteredAt e) (λ t. absurd (cc)) (λ new t. absurd (cc)) (λ new l t n. refl);
  away = λ q lq. opened_away (opened_new su) su.links (first_peers su.count su.links) (λ k. first_away su.count su.links k) q;
}
