-- What always holds of how a partition stands to a partner, whatever the memory answers.
use Rattle.std.proofs.Common.{◌≡◌, ℕ, Bool, true, false, ◌&&◌, ◌||◌, refl, sym, ◌∙◌, subst, inl, inr, ◌⊎◌, Option, Some, None}
use Rattle.std.specs.Prelude.{is_some, not, nat_eq, if◌then◌else◌, List, [], ◌∷◌}
use Rattle.std.proofs.lemmas.Bool.{and_parts}
use Rattle.xp_base.specs.declared.reason.Reason.{Reason}
use Rattle.xp_base.specs.declared.reason.Reason.TheVariants.{Unloading}
use Rattle.xp_base.specs.declared.step.CopyKind.{CopyKind}
use Rattle.xp_base.specs.declared.step.CopyKind.TheVariants.{Record as RecordCopy}
use Rattle.xp_script.specs.declared.part.Link.{Link as ScenarioLink}
use Rattle.xp_script.specs.declared.part.ScenarioPart.{ScenarioPart}
use Rattle.xp_protocol.specs.declared.contact.Contact.{Contact}
use Rattle.xp_protocol.specs.declared.contact.PartnerState.{PartnerState}
use Rattle.xp_protocol.specs.declared.contact.PartnerState.TheVariants.{Inactive, Requested, Activating, Active}
use Rattle.xp_protocol.specs.declared.rule.AreaWord.{AreaWord}
use Rattle.xp_protocol.specs.declared.rule.AreaWord.TheVariants.{SessionWord, EchoWord, PlaceWord, ArgsWord, FlagWord, CounterWord}
use Rattle.xp_protocol.specs.declared.rule.PeerRule.{PeerRule}
use Rattle.xp_protocol.specs.declared.rule.PeerRule.TheVariants.{AskActivation, TakeFlags, CloseArea, ZeroMagic, ClearOldBit, Prepare, OpenArea, SetEngagementBit, ReadRecord, StoreEcho, StoreSecond, ClearEngagementBit, LookAtPage, CheckBeat, ClearDeactivationBit, TellPartner}
use Rattle.xp_protocol.specs.Effects.{first_reason}
use Rattle.xp_protocol.specs.State.{Peer, PeerGoing, Engage, Reading, Area, Old, Off, Ready, Leaving, cold_peer, base_engage, peer_of, opened_state}
use Rattle.xp_protocol.specs.Peering.{Here, peer_can, peer_effect, area_left_for, prepared, is_ready, is_left, is_bad_flags, is_magic, is_wrong, has_shown, record_read, try_contact, contact_made, same_peer, with_reason, copy_ended, area_off}
use Rattle.xp_protocol.specs.Acts.{unwanted, state_unwanted}
use Rattle.xp_protocol.specs.Runs.{start}
use Rattle.xp_protocol.proofs.Frames.{cond_peer}
use Rattle.xp_plan.specs.PeerSteps.{may_read, is_open_to, is_activating}
use Rattle.xp_plan.proofs.Choices.{not_false}
use Rattle.xp_windows.proofs.PeerFrames.{ActsLeave, StepsLeave, moment_leaves, opened_has}

pub record Engaged (x : Engage) (contact : Option Contact) (is_wanted : Bool) : Type 0 where
  pub free_echo : x.area ≡ Off → x.session_put ≡ true → x.echo ≡ None
  pub out_echo : x.area ≡ Ready → x.bit ≡ false → x.echo ≡ None
  pub second : x.area ≡ Ready → x.second ≡ true → is_some x.echo ≡ true
  pub met : is_some contact ≡ true → (x.area ≡ Ready) × (x.second ≡ true)
  pub joined : is_some contact ≡ true → x.state ≡ Active
  pub active : x.state ≡ Activating → (x.area ≡ Ready) × (x.bit ≡ true) × (contact ≡ None)
  pub idle : x.bit ≡ false → (x.area ≡ Leaving → ⊥) → (x.state ≡ Inactive) ⊎ (x.state ≡ Requested)
  pub free_bit : x.area ≡ Off → x.bit ≡ false
  pub old_bit : x.area ≡ Old → x.bit ≡ false
  pub wanted : x.area ≡ Ready → x.reason ≡ None → is_wanted ≡ true
  pub back : x.back_off ≡ true → (x.reading ≡ None) × (x.echo ≡ None)

abbrev pub Stands : Peer → Type 0
Stands p = Engaged p.engage p.contact p.wanted

-- a copy of the record is planned while the partner may be read
abbrev pub Reads : Peer → PeerRule → Type 0
Reads p m = m ≡ ReadRecord → may_read p ≡ true

-- areas differ, and so on
ready_off : (a : Area) → a ≡ Ready → a ≡ Off → ⊥
ready_off a e f = let g : Ready ≡ Off = sym e ∙ f in cc

ready_leaving : (a : Area) → a ≡ Ready → a ≡ Leaving → ⊥
ready_leaving a e f = let g : Ready ≡ Leaving = sym e ∙ f in cc

ready_old : (a : Area) → a ≡ Ready → a ≡ Old → ⊥
ready_old a e f = let g : Ready ≡ Old = sym e ∙ f in cc

off_leaving : (a : Area) → a ≡ Off → a ≡ Leaving → ⊥
off_leaving a e f = let g : Off ≡ Leaving = sym e ∙ f in cc

not_both : (b : Bool) → b ≡ true → b ≡ false → ⊥
not_both b e f = let g : true ≡ false = sym e ∙ f in cc

not_there : {A : Type 0} (o : Option A) → is_some o ≡ true → o ≡ None → ⊥
not_there None e f = cc
not_there (Some x) e f = cc

none_is : {A : Type 0} (o : Option A) → (is_some o ≡ true → ⊥) → o ≡ None
none_is None n = refl
none_is (Some x) n = absurd (n refl)

none_first : (a b : Option Reason) → first_reason a b ≡ None → (a ≡ None) × (b ≡ None)
none_first None b h = (refl, h)
none_first (Some r) b h = absurd (cc)

-- the bit isn't set while no contact can be
pub uncontacted : (x : Engage) (c : Option Contact) (w : Bool) → Engaged x c w → x.area ≡ Ready → x.bit ≡ false → c ≡ None
uncontacted x c w h ready out = none_is c (λ e. not_there x.echo (h.second ready (h.met e).1) (h.out_echo ready out))

-- acts
reasoned : (o : Option Reason) (p : Peer) → Stands p → Stands (with_reason o p)
reasoned o p h = record { free_echo = h.free_echo; out_echo = h.out_echo; second = h.second; met = h.met; active = h.active; joined = h.joined; idle = h.idle; free_bit = h.free_bit; old_bit = h.old_bit; wanted = λ a r. h.wanted a (none_first p.engage.reason (if is_ready p.engage.area then o else None) r).0; back = h.back }

unwanted_active : (a : Area) (state : PartnerState) → state_unwanted a state ≡ Activating → state ≡ Activating
unwanted_active Off state e = absurd (cc)
unwanted_active Old state e = e
unwanted_active Ready state e = e
unwanted_active Leaving state e = e

unwanted_met : (a : Area) (state : PartnerState) → a ≡ Ready → state ≡ Active → state_unwanted a state ≡ Active
unwanted_met Ready state e f = f
unwanted_met Off state e f = absurd (cc)
unwanted_met Old state e f = absurd (cc)
unwanted_met Leaving state e f = absurd (cc)

unwanted_idle : (a : Area) (state : PartnerState) → (state ≡ Inactive) ⊎ (state ≡ Requested) → (state_unwanted a state ≡ Inactive) ⊎ (state_unwanted a state ≡ Requested)
unwanted_idle Off state h = inl refl
unwanted_idle Old state h = h
unwanted_idle Ready state h = h
unwanted_idle Leaving state h = h

unloaded : (a : Area) (o : Option Reason) → a ≡ Ready → first_reason o (if is_ready a then Some Unloading else None) ≡ None → ⊥
unloaded Ready None e f = cc
unloaded Ready (Some r) e f = cc
unloaded Off o e f = cc
unloaded Old o e f = cc
unloaded Leaving o e f = cc

unwants : (p : Peer) → Stands p → Stands (unwanted p)
unwants p h = record { free_echo = h.free_echo; out_echo = h.out_echo; second = h.second; met = h.met; active = λ e. h.active (unwanted_active p.engage.area p.engage.state e); joined = λ e. unwanted_met p.engage.area p.engage.state (h.met e).0 (h.joined e); idle = λ b n. unwanted_idle p.engage.area p.engage.state (h.idle b n); free_bit = h.free_bit; old_bit = h.old_bit; wanted = λ a r. absurd (unloaded p.engage.area p.engage.reason a r); back = h.back }

pub stands_acts : ActsLeave Stands
stands_acts = record {
  linked = λ p links h. h;
  unwanted = unwants;
  wanted = λ p h. record { free_echo = h.free_echo; out_echo = h.out_echo; second = h.second; met = h.met; active = h.active; joined = h.joined; idle = h.idle; free_bit = h.free_bit; old_bit = h.old_bit; wanted = λ a r. refl; back = h.back };
}

-- steps
ended : (turn : ℕ) (kind : CopyKind) (p : Peer) → Stands p → Stands (copy_ended turn kind p)
ended turn RecordCopy p h = record { free_echo = h.free_echo; out_echo = h.out_echo; second = h.second; met = h.met; active = h.active; joined = h.joined; idle = h.idle; free_bit = h.free_bit; old_bit = h.old_bit; wanted = h.wanted; back = λ e. (refl, (h.back e).1) }
ended turn kind p h = h

left_bit : (a : Area) (bit : Bool) → (a ≡ Old → bit ≡ false) → is_left (record (cold_peer Old).engage { area = a; bit = bit }) ≡ true → bit ≡ false
left_bit Old bit old e = old refl
left_bit Off bit old e = absurd (cc)
left_bit Ready bit old e = absurd (cc)
left_bit Leaving true old e = absurd (cc)
left_bit Leaving false old e = refl

freed : (p : Peer) → is_left p.engage ≡ true → Stands p → Stands (area_off p).local
freed p l h = record { free_echo = λ a b. absurd (cc); out_echo = λ a b. absurd (cc); second = λ a b. absurd (cc); met = λ e. absurd (cc); active = λ e. absurd (cc); joined = λ e. absurd (cc); idle = λ b n. inl refl; free_bit = λ a. left_bit p.engage.area p.engage.bit h.old_bit l; old_bit = λ a. absurd (cc); wanted = λ a r. absurd (cc); back = λ e. absurd (cc) }

left_stands : (o : Option Reason) (p : Peer) → Stands p → Stands (area_left_for o p).local
left_stands None p h = h
left_stands (Some r) p h = record { free_echo = λ a b. absurd (cc); out_echo = λ a b. absurd (cc); second = λ a b. absurd (cc); met = λ e. absurd (cc); active = λ e. absurd (cc); joined = λ e. absurd (cc); idle = λ b n. absurd (n refl); free_bit = λ a. absurd (cc); old_bit = λ a. absurd (cc); wanted = λ a r. absurd (cc); back = λ e. absurd (cc) }

-- words of the own memory are stored while it is free
free_kept : (x y : Engage) (c : Option Contact) (w : Bool) → x.area ≡ Off → y.area ≡ x.area → y.bit ≡ x.bit → y.state ≡ x.state → y.reason ≡ x.reason → y.reading ≡ x.reading → y.back_off ≡ x.back_off → y.second ≡ x.second → y.echo ≡ None → Engaged x c w → Engaged y c w
free_kept x y c w off a b s r d o n e h = record {
  free_echo = λ f g. e;
  out_echo = λ f g. e;
  second = λ f g. absurd (ready_off y.area f (a ∙ off));
  met = λ f. absurd (ready_off x.area (h.met f).0 off);
  active = λ f. absurd (ready_off x.area (h.active (sym s ∙ f)).0 off);
  joined = λ f. absurd (ready_off x.area (h.met f).0 off);
  idle = λ f g. subst (λ (z : PartnerState). (z ≡ Inactive) ⊎ (z ≡ Requested)) (sym s) (h.idle (sym b ∙ f) (λ z. g (a ∙ z)));
  free_bit = λ f. b ∙ h.free_bit off;
  old_bit = λ f. b ∙ h.free_bit off;
  wanted = λ f g. absurd (ready_off y.area f (a ∙ off));
  back = λ f. (d ∙ (h.back (sym o ∙ f)).0, e);
}

prepares : (y : AreaWord) (x : Engage) (c : Option Contact) (w : Bool) → x.area ≡ Off → Engaged x c w → Engaged (prepared y x) c w
prepares SessionWord x c w off h = free_kept x (prepared SessionWord x) c w off refl refl refl refl refl refl refl refl h
prepares EchoWord x c w off h = free_kept x (prepared EchoWord x) c w off refl refl refl refl refl refl refl refl h
prepares FlagWord x c w off h = free_kept x (prepared FlagWord x) c w off refl refl refl refl refl refl refl refl h
prepares (PlaceWord y) x c w off h = free_kept x (prepared (PlaceWord y) x) c w off refl refl refl refl refl refl refl refl h
prepares (ArgsWord d f) x c w off h = free_kept x (prepared (ArgsWord d f) x) c w off refl refl refl refl refl refl refl refl h
prepares (CounterWord d f) x c w off h = free_kept x (prepared (CounterWord d f) x) c w off refl refl refl refl refl refl refl refl h

opens : (y : Here) (p : Peer) (g : PeerGoing) (w : ℕ) → peer_can y p OpenArea → Stands p → Stands (peer_effect y (record p { numbers = g }) OpenArea w).local
opens y p g w can h = record {
  free_echo = λ a b. absurd (cc);
  out_echo = λ a b. h.free_echo can.0 (and_parts p.engage.session_put _ can.1).0;
  second = λ a b. absurd (cc);
  met = λ e. absurd (ready_off p.engage.area (h.met e).0 can.0);
  active = λ e. absurd (ready_off p.engage.area (h.active e).0 can.0);
  joined = λ e. absurd (ready_off p.engage.area (h.met e).0 can.0);
  idle = λ b n. h.idle b (off_leaving p.engage.area can.0);
  free_bit = λ a. absurd (cc);
  old_bit = λ a. absurd (cc);
  wanted = λ a r. can.2;
  back = λ e. absurd (cc);
}

sets : (y : Here) (p : Peer) (g : PeerGoing) (w : ℕ) → peer_can y p SetEngagementBit → Stands p → Stands (peer_effect y (record p { numbers = g }) SetEngagementBit w).local
sets y p g w can h = record {
  free_echo = λ a b. absurd (ready_off p.engage.area can.0 a);
  out_echo = λ a b. absurd (cc);
  second = h.second;
  met = h.met;
  active = λ e. (can.0, refl, uncontacted p.engage p.contact p.wanted h can.0 can.2);
  joined = λ e. absurd (not_there p.contact e (uncontacted p.engage p.contact p.wanted h can.0 can.2));
  idle = λ b n. absurd (cc);
  free_bit = λ a. absurd (ready_off p.engage.area can.0 a);
  old_bit = λ a. absurd (ready_old p.engage.area can.0 a);
  wanted = h.wanted;
  back = λ e. absurd (cc);
}

echoes : (y : Here) (p : Peer) (g : PeerGoing) (w : ℕ) → peer_can y p StoreEcho → Stands p → Stands (peer_effect y (record p { numbers = g }) StoreEcho w).local
echoes y p g w can h = record {
  free_echo = λ a b. absurd (ready_off p.engage.area can.0 a);
  out_echo = λ a b. absurd (not_both p.engage.bit can.2 b);
  second = λ a b. can.4;
  met = h.met;
  active = h.active;
  joined = h.joined;
  idle = h.idle;
  free_bit = h.free_bit;
  old_bit = h.old_bit;
  wanted = h.wanted;
  back = λ e. absurd (cc);
}

-- contact may be made where the own bit stands and the second magic is stored
contacts_by : (a b d : Bool) (turn stamp : ℕ) (p : Peer) → p.engage.second ≡ a → p.engage.area ≡ Ready → is_some p.engage.echo ≡ true → Stands p → Stands (if a && (b && d) then contact_made turn stamp p else same_peer p).local
contacts_by true true true turn stamp p e ready some h = record {
  free_echo = h.free_echo;
  out_echo = h.out_echo;
  second = h.second;
  met = λ f. (ready, e);
  active = λ f. absurd (cc);
  joined = λ f. refl;
  idle = λ f n. absurd (not_there p.engage.echo some (h.out_echo ready f));
  free_bit = h.free_bit;
  old_bit = h.old_bit;
  wanted = h.wanted;
  back = h.back;
}
contacts_by true true false turn stamp p e ready some h = h
contacts_by true false d turn stamp p e ready some h = h
contacts_by false b d turn stamp p e ready some h = h

contacts_some : (a b d : Bool) (turn stamp : ℕ) (p : Peer) → p.engage.second ≡ a → p.engage.area ≡ Ready → Stands p → Stands (if a && (b && d) then contact_made turn stamp p else same_peer p).local
contacts_some true b d turn stamp p e ready h = contacts_by true b d turn stamp p e ready (h.second ready e) h
contacts_some false b d turn stamp p e ready h = h

contacts : (turn stamp : ℕ) (p : Peer) → p.engage.area ≡ Ready → Stands p → Stands (try_contact turn stamp p).local
contacts turn stamp p ready h = contacts_some p.engage.second p.engage.shown (not (is_some p.contact)) turn stamp p refl ready h

seconds : (y : Here) (p : Peer) (g : PeerGoing) (w : ℕ) → peer_can y p StoreSecond → Stands p → Stands (peer_effect y (record p { numbers = g }) StoreSecond w).local
seconds y p g w can h =
    contacts y.turn y.stamp (record p { numbers = g; engage = record p.engage { second = true } }) can.0 (record { free_echo = h.free_echo; out_echo = h.out_echo; second = λ a b. can.2; met = λ e. ((h.met e).0, refl); active = h.active; joined = h.joined; idle = h.idle; free_bit = h.free_bit; old_bit = h.old_bit; wanted = h.wanted; back = h.back })

-- a copy of the partner's record
unread : (p : Peer) → may_read p ≡ true → p.engage.back_off ≡ true → ⊥
unread p m b = not_both p.engage.back_off b (not_false p.engage.back_off (and_parts (not (is_some p.contact)) (not p.engage.back_off) (and_parts (is_activating p.engage.state) _ (and_parts p.engage.bit _ (and_parts (is_open_to p.engage) _ m).1).1).1).1)

reading_kept : (x : Engage) (o : Option Reading) (v : Option ℕ) (shown : Bool) (c : Option Contact) (w : Bool) → (x.back_off ≡ true → ⊥) → Engaged x c w → Engaged (record x { reading = o; read = v; shown = shown }) c w
reading_kept x o v shown c w n h = record { free_echo = h.free_echo; out_echo = h.out_echo; second = h.second; met = h.met; active = h.active; joined = h.joined; idle = h.idle; free_bit = h.free_bit; old_bit = h.old_bit; wanted = h.wanted; back = λ e. absurd (n e) }

back_echo : (x : Engage) → (x.back_off ≡ true → x.echo ≡ None) → (x.back_off || not (is_some x.echo)) ≡ true → x.echo ≡ None
back_echo x h e = by x.back_off x.echo h e where
  by : (b : Bool) (o : Option ℕ) → (b ≡ true → o ≡ None) → (b || not (is_some o)) ≡ true → o ≡ None
  by b None g f = refl
  by true (Some v) g f = g refl
  by false (Some v) g f = absurd (cc)

magics : (p : Peer) (g : PeerGoing) (w : ℕ) → p.engage.reading ≡ None → Stands p → Stands (record p { numbers = g; engage = record p.engage { back_off = p.engage.back_off || not (is_some p.engage.echo) } })
magics p g w none h = record { free_echo = h.free_echo; out_echo = h.out_echo; second = h.second; met = h.met; active = h.active; joined = h.joined; idle = h.idle; free_bit = h.free_bit; old_bit = h.old_bit; wanted = h.wanted; back = λ e. (none, back_echo p.engage (λ b. (h.back b).1) e) }

record_stands : (y : Here) (p : Peer) (g : PeerGoing) (o : Option Reading) (w : ℕ) → p.engage.reading ≡ o → p.engage.area ≡ Ready → (p.engage.back_off ≡ true → ⊥) → Stands p → Stands (record_read y (record p { numbers = g }) o w).local
record_stands y p g None w i ready n h = cond_peer Stands (nat_eq w 0) _ _ (magics p g w i h) (cond_peer Stands (is_magic w) _ _ (reading_kept p.engage _ p.engage.read p.engage.shown p.contact p.wanted n h) h)
record_stands y p g (Some r) w i ready n h =
    cond_peer Stands (nat_eq r.done 1) _ _ (reading_kept p.engage _ (Some w) p.engage.shown p.contact p.wanted n h)
    (cond_peer Stands (nat_eq r.done 2) _ _ (reading_kept p.engage _ p.engage.read p.engage.shown p.contact p.wanted n h)
    (cond_peer Stands (nat_eq r.done 7) _ _
    (cond_peer Stands (has_shown y.stamp p.engage r) _ _ (contacts y.turn y.stamp (record p { numbers = g; engage = record p.engage { shown = true; reading = None } }) ready (reading_kept p.engage None p.engage.read true p.contact p.wanted n h)) (reading_kept p.engage None p.engage.read p.engage.shown p.contact p.wanted n h))
    (cond_peer Stands (is_wrong y.part r.done w) _ _ (reading_kept p.engage None p.engage.read p.engage.shown p.contact p.wanted n h) (reading_kept p.engage _ p.engage.read p.engage.shown p.contact p.wanted n h))))

-- the own bit goes
state_active : (a : Area) (state : PartnerState) → (if is_ready a then Requested else state) ≡ Activating → (state ≡ Activating) × (a ≡ Ready → ⊥)
state_active Ready state e = absurd (cc)
state_active Off state e = (e, λ f. cc)
state_active Old state e = (e, λ f. cc)
state_active Leaving state e = (e, λ f. cc)

state_idle : (a : Area) (state : PartnerState) → a ≡ Ready → (if is_ready a then Requested else state) ≡ Requested
state_idle Ready state e = refl
state_idle Off state e = absurd (cc)
state_idle Old state e = absurd (cc)
state_idle Leaving state e = absurd (cc)

clears : (y : Here) (p : Peer) (g : PeerGoing) (w : ℕ) → peer_can y p ClearEngagementBit → Stands p → Stands (peer_effect y (record p { numbers = g }) ClearEngagementBit w).local
clears y p g w can h = record {
  free_echo = h.free_echo;
  out_echo = λ a b. out can.2 a;
  second = h.second;
  met = h.met;
  active = λ e. absurd (let f = state_active p.engage.area p.engage.state e in f.1 (h.active f.0).0);
  joined = λ e. absurd (met_out can.2 e);
  idle = λ b n. idles can.2 n;
  free_bit = λ a. refl;
  old_bit = λ a. refl;
  wanted = h.wanted;
  back = λ e. absurd (cc);
}
  where
    out : ((p.engage.area ≡ Ready) × (p.engage.reason ≡ None) × (p.engage.echo ≡ None) × (p.engage.back_off ≡ true)) ⊎ ((p.engage.area ≡ Leaving) × (p.engage.told ≡ true)) → p.engage.area ≡ Ready → p.engage.echo ≡ None
    out (inl x) a = x.2
    out (inr x) a = absurd (ready_leaving p.engage.area a x.0)

    met_out : ((p.engage.area ≡ Ready) × (p.engage.reason ≡ None) × (p.engage.echo ≡ None) × (p.engage.back_off ≡ true)) ⊎ ((p.engage.area ≡ Leaving) × (p.engage.told ≡ true)) → is_some p.contact ≡ true → ⊥
    met_out (inl x) e = let m = h.met e in not_there p.engage.echo (h.second m.0 m.1) x.2
    met_out (inr x) e = ready_leaving p.engage.area (h.met e).0 x.0

    idles : ((p.engage.area ≡ Ready) × (p.engage.reason ≡ None) × (p.engage.echo ≡ None) × (p.engage.back_off ≡ true)) ⊎ ((p.engage.area ≡ Leaving) × (p.engage.told ≡ true)) → (p.engage.area ≡ Leaving → ⊥) → ((if is_ready p.engage.area then Requested else p.engage.state) ≡ Inactive) ⊎ ((if is_ready p.engage.area then Requested else p.engage.state) ≡ Requested)
    idles (inl x) n = inr (state_idle p.engage.area p.engage.state x.0)
    idles (inr x) n = absurd (n x.0)

steps : (y : Here) (p : Peer) (g : PeerGoing) (m : PeerRule) (w : ℕ) → peer_can y p m → Reads p m → Stands p → Stands (peer_effect y (record p { numbers = g }) m w).local
steps y p g AskActivation w can n h = record { free_echo = h.free_echo; out_echo = h.out_echo; second = h.second; met = h.met; active = λ e. absurd (cc); joined = λ e. absurd (let f : Active ≡ Inactive = sym (h.joined e) ∙ can.1 in cc); idle = λ b k. inr refl; free_bit = h.free_bit; old_bit = h.old_bit; wanted = h.wanted; back = h.back }
steps y p g TakeFlags w can n h = cond_peer Stands (is_bad_flags w) _ _ h h
steps y p g CloseArea w can n h = left_stands p.engage.reason (record p { numbers = g }) h
steps y p g ZeroMagic w can n h = record { free_echo = h.free_echo; out_echo = h.out_echo; second = h.second; met = h.met; active = h.active; joined = h.joined; idle = h.idle; free_bit = h.free_bit; old_bit = h.old_bit; wanted = h.wanted; back = h.back }
steps y p g ClearOldBit w can n h = record { free_echo = h.free_echo; out_echo = h.out_echo; second = h.second; met = h.met; active = h.active; joined = h.joined; idle = h.idle; free_bit = h.free_bit; old_bit = h.old_bit; wanted = h.wanted; back = h.back }
steps y p g (Prepare x) w can n h = prepares x p.engage p.contact p.wanted can.0 h
steps y p g OpenArea w can n h = opens y p g w can h
steps y p g SetEngagementBit w can n h = sets y p g w can h
steps y p g ReadRecord w can n h = record_stands y p g p.engage.reading w refl can.0 (unread p (n refl)) h
steps y p g StoreEcho w can n h = echoes y p g w can h
steps y p g StoreSecond w can n h = seconds y p g w can h
steps y p g ClearEngagementBit w can n h = clears y p g w can h
steps y p g LookAtPage w can n h = cond_peer Stands _ _ _ h h
steps y p g CheckBeat w can n h = h
steps y p g ClearDeactivationBit w can n h = record { free_echo = h.free_echo; out_echo = h.out_echo; second = h.second; met = h.met; active = h.active; joined = h.joined; idle = h.idle; free_bit = h.free_bit; old_bit = h.old_bit; wanted = h.wanted; back = h.back }
steps y p g TellPartner w can n h = record { free_echo = h.free_echo; out_echo = h.out_echo; second = h.second; met = h.met; active = h.active; joined = h.joined; idle = h.idle; free_bit = h.free_bit; old_bit = h.old_bit; wanted = h.wanted; back = h.back }

pub stands_steps : StepsLeave Reads Stands
stands_steps = record { linked = λ p links going some h. h; reasoned = reasoned; ended = λ turn kind p m k n h. ended turn kind p h; freed = freed; steps = steps }

-- a boot and the opening
pub stands_anew : (zeroed cleared wanted : Bool) → Engaged (record (cold_peer Old).engage { zeroed = zeroed; cleared = cleared }) None wanted
stands_anew zeroed cleared wanted = record { free_echo = λ a e. absurd (cc); out_echo = λ a e. absurd (cc); second = λ a e. absurd (cc); met = λ e. absurd (cc); active = λ e. absurd (cc); joined = λ e. absurd (cc); idle = λ e n. inl refl; free_bit = λ a. absurd (cc); old_bit = λ a. refl; wanted = λ a r. absurd (cc); back = λ e. absurd (cc) }

base_stands : (ls : List ScenarioLink) → Engaged (base_engage ls) None true
base_stands [] = stands_anew false false true
base_stands (l ∷ ls) = record { free_echo = λ a e. absurd (cc); out_echo = λ a e. absurd (cc); second = λ a e. absurd (cc); met = λ e. absurd (cc); active = λ e. absurd (cc); joined = λ e. absurd (cc); idle = λ e n. inl refl; free_bit = λ a. refl; old_bit = λ a. absurd (cc); wanted = λ a r. absurd (cc); back = λ e. absurd (cc) }

pub stands_first : (s : ScenarioPart) (q : ℕ) → Stands (peer_of (start s) q)
stands_first s q = moment_leaves Stands s q 0 (opened_state s) (λ p. stands_anew false false true) (stands_anew true true true) (opened_has (λ (p : Peer). Stands p × (p.wanted ≡ true)) s q (λ ls. (base_stands ls, refl)) (λ b l p h. (record { free_echo = λ a e. absurd (cc); out_echo = λ a e. absurd (cc); second = λ a e. refl; met = λ e. (refl, refl); active = λ e. absurd (cc); joined = λ e. refl; idle = λ e n. absurd (cc); free_bit = λ a. absurd (cc); old_bit = λ a. absurd (cc); wanted = λ a r. h.1; back = λ e. absurd (cc) }, h.1)) (stands_anew true true true, refl)).0
