-- What is known of a planned step by the errand that asked for it: a look is asked for at its own
-- errand, a copy of a partner's record while it may be read, an echo is stored where the own bit isn't
-- to go, and the words of a channel are copied while it is connected.
use Rattle.std.proofs.Common.{◌≡◌, ℕ, ◌+◌, Bool, true, false, ◌&&◌, ◌||◌, List, [], ◌∷◌, length, refl, subst, Option, Some, None}
use Rattle.std.specs.Prelude.{is_some, not, nat_lt, nat_eq, if◌then◌else◌}
use Rattle.xp_base.specs.declared.layout.TheConstants.{RECORD_WORDS}
use Rattle.xp_base.specs.declared.link.Kind.{Kind}
use Rattle.xp_base.specs.declared.link.Kind.TheVariants.{CloseRequest, CloseReply, OpenRequest, OpenReply, OpenComplete, MsgRequest}
use Rattle.xp_rounds.specs.declared.rounds.Place.{Place}
use Rattle.xp_rounds.specs.declared.rounds.Place.TheVariants.{Own as OwnPlace, Partner as PartnerPlace}
use Rattle.xp_rounds.specs.Ring.{place_at}
use Rattle.xp_rounds.specs.Visit.{Visit, planned}
use Rattle.xp_rounds.proofs.Sources.{Paced, Source, source}
use Rattle.xp_script.specs.declared.command.Command.{Command}
use Rattle.xp_script.specs.declared.command.Command.TheVariants as commands
use Rattle.xp_script.specs.declared.part.ScenarioPart.{ScenarioPart}
use Rattle.xp_protocol.specs.declared.contact.PartnerState.{PartnerState}
use Rattle.xp_protocol.specs.declared.contact.PartnerState.TheVariants.{Inactive, Requested}
use Rattle.xp_protocol.specs.declared.rule.AreaWord.{AreaWord}
use Rattle.xp_protocol.specs.declared.rule.Argument.{Argument}
use Rattle.xp_protocol.specs.declared.rule.Argument.TheVariants.{Request, Reply, Code}
use Rattle.xp_protocol.specs.declared.rule.RingRule.{RingRule}
use Rattle.xp_protocol.specs.declared.rule.RingRule.TheVariants.{ReadGet, WriteEntryWord, AcceptMessage}
use Rattle.xp_protocol.specs.declared.rule.PullRule.TheVariants.{ReadCounters, ReadEntry}
use Rattle.xp_protocol.specs.declared.rule.LinkRule.{LinkRule}
use Rattle.xp_protocol.specs.declared.rule.LinkRule.TheVariants.{Ring, Pull, Acknowledge, SetFlag, ZeroGet, ZeroPut, StoreArgument}
use Rattle.xp_protocol.specs.declared.rule.PeerRule.TheVariants.{TakeFlags, CloseArea, ZeroMagic, ClearOldBit, ReadRecord, StoreEcho, StoreSecond, ClearEngagementBit, LookAtPage, CheckBeat, ClearDeactivationBit, TellPartner}
use Rattle.xp_protocol.specs.declared.rule.OwnRule.{OwnRule}
use Rattle.xp_protocol.specs.declared.rule.OwnRule.TheVariants.{ReadStamp, WriteStamp, StoreOffline}
use Rattle.xp_protocol.specs.declared.rule.Rule.{Rule}
use Rattle.xp_protocol.specs.declared.rule.Rule.TheVariants.{Link, Peer as ForPeer, Own}
use Rattle.xp_protocol.specs.Acts.{current, EndName, named_end}
use Rattle.xp_protocol.specs.State.{State, Life, Booting, Up, Halted, Area, Old, Off, Ready, Leaving, Engage, Peer, End, end_of, peer_of, is_connected}
use Rattle.xp_protocol.specs.Rules.{here_of, offline_asked}
use Rattle.xp_protocol.specs.Peering.{is_off, is_prepared, copies_go_on, is_good}
use Rattle.xp_plan.specs.declared.errand.Errand.{Errand}
use Rattle.xp_plan.specs.declared.errand.Errand.TheVariants as errands
use Rattle.xp_plan.specs.EndSteps.{step_if, or_else, send_step, once, is_polling, has_entry, owes_store, store_at, message_at, argument_awaited, argument_step, argument_at, control_owed, has_request, control_step, control_by, control_at, control_signal, signal_step, signal_at}
use Rattle.xp_plan.specs.PeerSteps.{for_peer, open_step, word_missing, prepare_by, prepare_free, is_open_to, engage_by, has_waited, echo_step, is_backing_off, may_read, leave_by, clear_old, boot_peers, boot_own, boot_after_read, any_left}
use Rattle.xp_plan.specs.Plan.{asked, is_joined, link_rule, link_asked, command_step, command_at, command_asked, script_asked, ask_partner, ask_own, ask_up, ask_booting, ask_by, plan_of}
use Rattle.xp_plan.proofs.Choices.{some_is}
use Rattle.xp_windows.proofs.Copies.{whole}

-- what is known
abbrev pub Meant : Place → Errand → ℕ → State → Rule → Type 0
Meant place e used st (ForPeer q LookAtPage) = (place ≡ PartnerPlace q) × (e ≡ errands.Look) × ((nat_eq used 0 || nat_lt 0 (length (peer_of st q).paging)) ≡ true)
Meant place e used st (ForPeer q ReadRecord) = may_read (peer_of st q) ≡ true
Meant place e used st (ForPeer q StoreEcho) = is_backing_off (peer_of st q) ≡ false
Meant place e used st (Link q c (Pull m)) = is_connected (end_of st q c) ≡ true
Meant place e used st r = Unit {0}

-- of a step where there is one
abbrev All : {R : Type 0} → (R → Type 0) → Option R → Type 0
All P None = Unit {0}
All P (Some r) = P r

-- steps at an end
module _ (place : Place) (e : Errand) (turns : ℕ) (st : State) (q c : ℕ) where
  abbrev M : LinkRule → Type 0
  M m = Meant place e turns st (Link q c m)

  link_by : (b : Bool) (o : Option LinkRule) → All M o → All (Meant place e turns st) (if b then link_rule q c o else None)
  link_by true None h = tt
  link_by true (Some m) h = h
  link_by false o h = tt

  links : (o : Option LinkRule) → All M o → All (Meant place e turns st) (link_asked st q c o)
  links o h = link_by (is_joined (peer_of st q)) o h

  either : (x y : Option LinkRule) → All M x → All M y → All M (or_else x y)
  either None y a b = b
  either (Some m) y a b = a

  -- the words of a channel
  pulls_by : (b rest : Bool) → is_connected (end_of st q c) ≡ b → All M (step_if (b && rest) (Pull ReadCounters))
  pulls_by true true i = i
  pulls_by true false i = tt
  pulls_by false rest i = tt

  entries_by : (b rest : Bool) → is_connected (end_of st q c) ≡ b → All M (step_if (b && rest) (Pull ReadEntry))
  entries_by true true i = i
  entries_by true false i = tt
  entries_by false rest i = tt

  -- none of the others copies any
  once_by : (used : ℕ) (r : RingRule) (b : Bool) → nat_eq used 0 ≡ b → All M (once used r)
  once_by used ReadGet b i = by (nat_eq used 0) where
    by : (d : Bool) → All M (step_if d (Ring ReadGet))
    by true = tt
    by false = tt
  once_by used (WriteEntryWord f) b i = tt
  once_by used AcceptMessage b i = tt

  sends_by : (b : Bool) (used : ℕ) (r : RingRule) → All M (if b then once used r else None)
  sends_by true used r = once_by used r (nat_eq used 0) refl
  sends_by false used r = tt

  stores : (b : Bool) → All M (step_if b Acknowledge)
  stores true = tt
  stores false = tt

  messages : (b : Bool) → All M (step_if b (SetFlag MsgRequest))
  messages true = tt
  messages false = tt

  arguments : (b : Bool) (o : Option Argument) → All M (if b then None else argument_step o)
  arguments true o = tt
  arguments false None = tt
  arguments false (Some x) = tt

  zeros : (a b d : Bool) → M (if not a then ZeroGet else (if not b then ZeroPut else (if d then SetFlag OpenRequest else StoreArgument Request)))
  zeros true true true = tt
  zeros true true false = tt
  zeros true false d = tt
  zeros false b d = tt

  behind : (b : Bool) (k : Kind) (x : Argument) → M (if b then SetFlag k else StoreArgument x)
  behind true k x = tt
  behind false k x = tt

  controls : (k : Kind) (y : End) → M (control_step k y)
  controls OpenRequest y = zeros y.shake.get_zero y.shake.put_zero (has_request y)
  controls OpenReply y = behind y.shake.reply_put OpenReply Reply
  controls CloseRequest y = behind y.shake.code_put CloseRequest Code
  controls CloseReply y = tt
  controls OpenComplete y = tt
  controls MsgRequest y = tt

  controls_by : (o : Option Kind) (y : End) → All M (control_by o y)
  controls_by None y = tt
  controls_by (Some k) y = controls k y

  signals_late : (y : End) → All M (control_signal y)
  signals_late y = either (argument_at y) (control_at y) (arguments y.shake.sent.close_reply (argument_awaited y.shake)) (controls_by (control_owed y) y)

  signals_by : (b : Bool) (y : End) → All M (if b then or_else (message_at y) (or_else (store_at y) (control_signal y)) else control_signal y)
  signals_by true y = either (message_at y) (or_else (store_at y) (control_signal y)) (messages y.shake.owes_message) (either (store_at y) (control_signal y) (stores (owes_store y)) (signals_late y))
  signals_by false y = signals_late y

  meets : (b : Bool) (used : ℕ) (y : End) → All M (if b then signal_step used y else None)
  meets true used y = signals_by (nat_lt used 2) y
  meets false used y = tt

  commands_by : (used : ℕ) (x : Command) → All M (command_step used (end_of st q c) x)
  commands_by used (commands.Send k d payload wait notify) = sends_by (is_connected (end_of st q c) && is_some (end_of st q c).sides.send.send) used (send_step (end_of st q c).sides.send)
  commands_by used (commands.Take k d wait) = entries_by (is_connected (end_of st q c)) (is_some (end_of st q c).sides.pull.take && has_entry (end_of st q c).sides.pull) refl
  commands_by used (commands.Release k d number) = stores (owes_store (end_of st q c))
  commands_by used (commands.Register k d entries limit) = tt
  commands_by used (commands.Unregister k d) = tt
  commands_by used (commands.Connected k d) = tt
  commands_by used (commands.Closed k d) = tt
  commands_by used (commands.Drain k d) = tt
  commands_by used (commands.Net frame) = tt
  commands_by used (commands.Frames count) = tt
  commands_by used (commands.Deactivate k) = tt
  commands_by used (commands.Activate k) = tt
  commands_by used commands.Leave = tt
  commands_by used (commands.Idle turns) = tt
  commands_by used commands.Offline = tt
  commands_by used commands.Online = tt

-- the step of the command in progress
module _ (place : Place) (e : Errand) (turns : ℕ) (s : ScenarioPart) (st : State) where
  abbrev Known : Option Rule → Type 0
  Known o = All (Meant place e turns st) o

  -- one of the partition
  owns : (b : Bool) (m : OwnRule) → Known (step_if b (Own m))
  owns true m = tt
  owns false m = tt

  named : (used : ℕ) (x : Command) (o : Option EndName) → Known (command_at s st used x o)
  named used x None = owns (is_some (offline_asked s st)) StoreOffline
  named used x (Some n) = links place e turns st n.partner n.channel (command_step used (end_of st n.partner n.channel) x) (commands_by place e turns st n.partner n.channel used x)

  command : (used : ℕ) (o : Option Command) → Known (command_asked s st used o)
  command used None = tt
  command used (Some x) = named used x (named_end x)

  script_by : (b : Bool) (used : ℕ) → Known (if b then command_asked s st used (current s st) else None)
  script_by true used = command used (current s st)
  script_by false used = tt

  script : (used : ℕ) → Known (script_asked s st used)
  script used = script_by st.script.doing used

  -- a step for a partner
  prepares : (b masked : Bool) (q : ℕ) → Known (step_if b (open_step masked q))
  prepares true true q = tt
  prepares true false q = tt
  prepares false masked q = tt

  words : (o : Option AreaWord) (masked : Bool) (q : ℕ) (x : Engage) → Known (prepare_by o masked q x)
  words None masked q x = prepares (is_prepared x) masked q
  words (Some w) masked q x = tt

  frees : (b masked : Bool) (q : ℕ) (x : Engage) → Known (if b then prepare_by (word_missing x) masked q x else Some (ForPeer q ClearDeactivationBit))
  frees true masked q x = words (word_missing x) masked q x
  frees false masked q x = tt

  opens : (b masked : Bool) (q : ℕ) (x : Engage) → Known (if b then prepare_free masked q x else None)
  opens true masked q x = frees x.deactivation_cleared masked q x
  opens false masked q x = tt

  engages : (state : PartnerState) (a b : Bool) (q : ℕ) → Known (for_peer q (engage_by state a b))
  engages Inactive true b q = tt
  engages Inactive false b q = tt
  engages Requested a true q = tt
  engages Requested a false q = tt
  engages state a b q = tt

  engages_by : (b : Bool) (state : PartnerState) (x y : Bool) (q : ℕ) → Known (for_peer q (if b then engage_by state x y else None))
  engages_by true state x y q = engages state x y q
  engages_by false state x y q = tt

  echoes : (a b d : Bool) (q : ℕ) → is_backing_off (peer_of st q) ≡ false → Known (for_peer q (if a then step_if (not b) StoreSecond else step_if d StoreEcho))
  echoes true true d q i = tt
  echoes true false d q i = tt
  echoes false b true q i = i
  echoes false b false q i = tt

  backs : (b : Bool) (q : ℕ) → is_backing_off (peer_of st q) ≡ b → Known (for_peer q (if b then Some ClearEngagementBit else echo_step (peer_of st q).engage))
  backs true q i = tt
  backs false q i = echoes (is_some (peer_of st q).engage.echo) (peer_of st q).engage.second ((peer_of st q).engage.bit && is_some (peer_of st q).engage.read) q i

  answers : (b : Bool) (q : ℕ) → Known (for_peer q (if b then (if is_backing_off (peer_of st q) then Some ClearEngagementBit else echo_step (peer_of st q).engage) else None))
  answers true q = backs (is_backing_off (peer_of st q)) q refl
  answers false q = tt

  records : (b rest : Bool) (q : ℕ) → may_read (peer_of st q) ≡ b → Known (for_peer q (step_if (b && rest) ReadRecord))
  records true true q i = i
  records true false q i = tt
  records false rest q i = tt

  takes : (b : Bool) (q : ℕ) → Known (for_peer q (step_if b TakeFlags))
  takes true q = tt
  takes false q = tt

  checks : (b : Bool) (q : ℕ) → Known (for_peer q (step_if b CheckBeat))
  checks true q = tt
  checks false q = tt

  leaves_bit : (a b d : Bool) (q : ℕ) → Known (for_peer q (if a then (if b then step_if d ClearEngagementBit else Some TellPartner) else None))
  leaves_bit true true true q = tt
  leaves_bit true true false q = tt
  leaves_bit true false d q = tt
  leaves_bit false b d q = tt

  closes : (b : Bool) (q : ℕ) → Known (for_peer q (step_if b CloseArea))
  closes true q = tt
  closes false q = tt

  leaves : (a : Area) (p : Peer) (q : ℕ) → Known (for_peer q (leave_by a p))
  leaves Old p q = tt
  leaves Off p q = tt
  leaves Ready p q = closes (is_some p.engage.reason) q
  leaves Leaving p q = leaves_bit p.engage.bit p.engage.told (not (copies_go_on p)) q

looks_by : (b : Bool) (q used : ℕ) (st : State) → (nat_eq used 0 || nat_lt 0 (length (peer_of st q).paging)) ≡ b → All (Meant (PartnerPlace q) errands.Look used st) (for_peer q (step_if b LookAtPage))
looks_by true q used st i = (refl, refl, i)
looks_by false q used st i = tt

partner : (s : ScenarioPart) (q : ℕ) (e : Errand) (used : ℕ) (st : State) → All (Meant (PartnerPlace q) e used st) (ask_partner s q e used st)
partner s q errands.Look used st = looks_by (nat_eq used 0 || nat_lt 0 (length (peer_of st q).paging)) q used st refl
partner s q errands.Prepare used st = opens (PartnerPlace q) errands.Prepare used s st (is_off (peer_of st q).engage.area && ((peer_of st q).wanted && nat_lt (peer_of st q).engage.count 4294967295)) (here_of s st q).masked q (peer_of st q).engage
partner s q errands.Engage used st = engages_by (PartnerPlace q) errands.Engage used s st (is_open_to (peer_of st q).engage && (not (peer_of st q).engage.bit && is_good (peer_of st q).look)) (peer_of st q).engage.state (peer_of st q).wanted (has_waited (here_of s st q).wait (here_of s st q).turn (peer_of st q).engage.cleared_at) q
partner s q errands.Answer used st = answers (PartnerPlace q) errands.Answer used s st (is_open_to (peer_of st q).engage) q
partner s q errands.Record used st = records (PartnerPlace q) errands.Record used s st (may_read (peer_of st q)) (is_some (peer_of st q).engage.reading || nat_lt used RECORD_WORDS) q refl
partner s q errands.Flags used st = takes (PartnerPlace q) errands.Flags used s st (is_joined (peer_of st q)) q
partner s q errands.Check used st = checks (PartnerPlace q) errands.Check used s st _ q
partner s q (errands.Signal c) used st = links (PartnerPlace q) (errands.Signal c) used st q c (signal_at used (end_of st q c)) (meets (PartnerPlace q) (errands.Signal c) used st q c (is_some (end_of st q c).shake.meet) used (end_of st q c))
partner s q (errands.Counters c) used st = let y = end_of st q c in links (PartnerPlace q) (errands.Counters c) used st q c _ (pulls_by (PartnerPlace q) (errands.Counters c) used st q c (is_connected y) (is_some y.sides.pull.counters || (nat_lt used 2 && (y.sides.pull.owed || is_polling y.sides.pull))) refl)
partner s q errands.Bulk used st = script (PartnerPlace q) errands.Bulk used s st used
partner s q errands.Leave used st = leaves (PartnerPlace q) errands.Leave used s st (peer_of st q).engage.area (peer_of st q) q
partner s q errands.Boot used st = tt
partner s q errands.Beat used st = tt
partner s q errands.Mask used st = tt
partner s q errands.Activations used st = tt
partner s q errands.Deactivations used st = tt
partner s q errands.Engagements used st = tt
partner s q errands.Script used st = tt

own : (s : ScenarioPart) (e : Errand) (used : ℕ) (st : State) → All (Meant OwnPlace e used st) (ask_own s e used st)
own s errands.Beat used st = owns OwnPlace errands.Beat used s st _ _
own s errands.Mask used st = owns OwnPlace errands.Mask used s st _ _
own s errands.Activations used st = tt
own s errands.Deactivations used st = tt
own s errands.Engagements used st = owns OwnPlace errands.Engagements used s st (any_left s.part 0 st.peers) _
own s errands.Script used st = script OwnPlace errands.Script used s st used
own s errands.Boot used st = tt
own s errands.Look used st = tt
own s errands.Prepare used st = tt
own s errands.Engage used st = tt
own s errands.Answer used st = tt
own s errands.Record used st = tt
own s errands.Flags used st = tt
own s errands.Check used st = tt
own s (errands.Signal c) used st = tt
own s (errands.Counters c) used st = tt
own s errands.Bulk used st = tt
own s errands.Leave used st = tt

-- a boot
module _ (place : Place) (e : Errand) (turns : ℕ) (st : State) where
  abbrev Boots : Option Rule → Type 0
  Boots o = All (Meant place e turns st) o

  or_boots : (x y : Option Rule) → Boots x → Boots y → Boots (or_else x y)
  or_boots None y a b = b
  or_boots (Some r) y a b = a

  clears : (a b : Bool) (q : ℕ) → Boots (for_peer q (if not a then Some ZeroMagic else step_if (not b) ClearOldBit))
  clears false b q = tt
  clears true false q = tt
  clears true true q = tt

  one_boots : (b : Bool) (q : ℕ) (x : Engage) → Boots (if b then None else for_peer q (clear_old x))
  one_boots true q x = tt
  one_boots false q x = clears x.zeroed x.cleared q

  peers_boot : (part q : ℕ) (peers : List Peer) → Boots (boot_peers part q peers)
  peers_boot part q [] = tt
  peers_boot part q (p ∷ peers) = or_boots (if nat_eq q part then None else for_peer q (clear_old p.engage)) (boot_peers part (q + 1) peers) (one_boots (nat_eq q part) q p.engage) (peers_boot part (q + 1) peers)

  own_boots : (a b : Bool) → Boots (boot_own a b)
  own_boots false b = tt
  own_boots true false = tt
  own_boots true true = tt

  reads : (part : ℕ) (b : Bool) → Boots (if b then boot_after_read part st else Some (Own ReadStamp))
  reads part true = or_boots (boot_own st.boot.mask st.boot.offline) (or_else (boot_peers part 0 st.peers) (Some (Own WriteStamp))) (own_boots st.boot.mask st.boot.offline) (or_boots (boot_peers part 0 st.peers) (Some (Own WriteStamp)) (peers_boot part 0 st.peers) tt)
  reads part false = tt

booting : (s : ScenarioPart) (place : Place) (e : Errand) (used : ℕ) (st : State) → All (Meant place e used st) (ask_booting s e st)
booting s place errands.Boot used st = reads place errands.Boot used st s.part (is_some st.boot.read)
booting s place errands.Beat used st = tt
booting s place errands.Mask used st = tt
booting s place errands.Activations used st = tt
booting s place errands.Deactivations used st = tt
booting s place errands.Engagements used st = tt
booting s place errands.Script used st = tt
booting s place errands.Look used st = tt
booting s place errands.Prepare used st = tt
booting s place errands.Engage used st = tt
booting s place errands.Answer used st = tt
booting s place errands.Record used st = tt
booting s place errands.Flags used st = tt
booting s place errands.Check used st = tt
booting s place (errands.Signal c) used st = tt
booting s place (errands.Counters c) used st = tt
booting s place errands.Bulk used st = tt
booting s place errands.Leave used st = tt

up : (s : ScenarioPart) (place : Place) (e : Errand) (used : ℕ) (st : State) → All (Meant place e used st) (ask_up s place e used st)
up s OwnPlace e used st = own s e used st
up s (PartnerPlace q) e used st = partner s q e used st

by_life : (l : Life) (s : ScenarioPart) (place : Place) (e : Errand) (used : ℕ) (st : State) → All (Meant place e used st) (ask_by l s place e used st)
by_life Up s place e used st = up s place e used st
by_life Booting s place e used st = booting s place e used st
by_life Halted s place e used st = tt

asked_is : (o : Option Rule) (r : Rule) → asked o ≡ Some (Some r) → o ≡ Some r
asked_is None r e = absurd (cc)
asked_is (Some x) r e = some_is (Some x) (Some r) e

-- each planned step has an errand that asked for it, and goes on with it while it may
pub record Planned (s : ScenarioPart) (v : Visit Errand) (st : State) (r : Rule) : Type 0 where
  pub source : Source (plan_of s) (whole s) st (planned (plan_of s) v st) r
  pub meant : Meant (place_at s.part source.place) source.errand source.used st r

pub planned_by : (s : ScenarioPart) (v : Visit Errand) (st : State) (r : Rule) → Paced (plan_of s) (whole s) v → (planned (plan_of s) v st).rule ≡ Some r → Planned s v st r
planned_by s v st r paced e =
    let y = source (plan_of s) (whole s) v st r paced e in
    record { source = y; meant = subst (λ (o : Option Rule). All (Meant (place_at s.part y.place) y.errand y.used st) o) (asked_is (ask_by st.life s (place_at s.part y.place) y.errand y.used st) r y.asks) (by_life st.life s (place_at s.part y.place) y.errand y.used st) }
