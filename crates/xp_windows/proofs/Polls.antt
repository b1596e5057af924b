-- A word of the counters is asked for at one errand alone: with turns left for a whole copy, or while
-- a copy goes on.
use Rattle.std.proofs.Common.{◌≡◌, ℕ, ◌+◌, ◌-◌, ◌<◌, ◌≤◌, Bool, true, false, ◌&&◌, ◌||◌, refl, ap, sym, ◌∙◌, subst, arith, inl, inr, ◌⊎◌, Option, Some, None}
use Rattle.std.specs.Prelude.{IsSome, is_some, not, nat_lt, nat_eq, if◌then◌else◌}
use Rattle.std.proofs.lemmas.Bool.Decides.{nat_tests}
use Rattle.xp_base.specs.declared.link.Kind.{Kind}
use Rattle.xp_base.specs.declared.link.Kind.TheVariants.{CloseRequest, CloseReply, OpenRequest, OpenReply, OpenComplete, MsgRequest}
use Rattle.xp_rounds.specs.declared.rounds.Place.{Place}
use Rattle.xp_rounds.specs.declared.rounds.Place.TheVariants.{Own as OwnPlace, Partner as PartnerPlace}
use Rattle.xp_rounds.specs.Ring.{place_at}
use Rattle.xp_script.specs.declared.command.Command.{Command}
use Rattle.xp_script.specs.declared.command.Command.TheVariants as commands
use Rattle.xp_script.specs.declared.part.ScenarioPart.{ScenarioPart}
use Rattle.xp_protocol.specs.declared.rule.AreaWord.{AreaWord}
use Rattle.xp_protocol.specs.declared.rule.Argument.{Argument}
use Rattle.xp_protocol.specs.declared.rule.Argument.TheVariants.{Request, Reply, Code}
use Rattle.xp_protocol.specs.declared.rule.RingRule.{RingRule}
use Rattle.xp_protocol.specs.declared.rule.RingRule.TheVariants.{ReadGet, WriteEntryWord, AcceptMessage}
use Rattle.xp_protocol.specs.declared.rule.PullRule.TheVariants.{ReadCounters, ReadEntry}
use Rattle.xp_protocol.specs.declared.rule.LinkRule.{LinkRule}
use Rattle.xp_protocol.specs.declared.rule.LinkRule.TheVariants.{Ring, Pull, Acknowledge, SetFlag, ZeroGet, ZeroPut, StoreArgument}
use Rattle.xp_protocol.specs.declared.rule.PeerRule.{PeerRule}
use Rattle.xp_protocol.specs.declared.rule.PeerRule.TheVariants.{ClearDeactivationBit}
use Rattle.xp_protocol.specs.declared.rule.OwnRule.{OwnRule}
use Rattle.xp_protocol.specs.declared.rule.OwnRule.TheVariants.{StoreOffline}
use Rattle.xp_protocol.specs.declared.rule.Rule.{Rule}
use Rattle.xp_protocol.specs.declared.rule.Rule.TheVariants.{Link, Peer as ForPeer, Own}
use Rattle.xp_protocol.specs.Acts.{current, EndName, named_end}
use Rattle.xp_protocol.specs.State.{State, Life, Engage, End, end_of, peer_of, is_connected}
use Rattle.xp_protocol.specs.Rules.{here_of, offline_asked}
use Rattle.xp_protocol.specs.Peering.{is_off, is_prepared}
use Rattle.xp_plan.specs.declared.errand.Errand.{Errand}
use Rattle.xp_plan.specs.declared.errand.Errand.TheVariants as errands
use Rattle.xp_plan.specs.EndSteps.{step_if, or_else, send_step, once, is_polling, counters_at, store_at, message_at, argument_awaited, argument_step, argument_at, control_owed, has_request, control_step, control_by, control_at, control_signal, signal_step, signal_at, has_entry, owes_store}
use Rattle.xp_plan.specs.PeerSteps.{for_peer, open_step, word_missing, prepare_by, prepare_free}
use Rattle.xp_plan.specs.Plan.{asked, is_joined, link_rule, link_asked, command_step, command_at, command_asked, script_asked, ask_partner, ask_own, ask_up, ask_by}
use Rattle.xp_plan.proofs.Choices.{step_is, first_is, some_is}
use Rattle.xp_windows.specs.Windows.{IsUp}

abbrev pub Load : ℕ → ℕ → Rule
Load q c = Link q c (Pull ReadCounters)

abbrev pub Going : End → Type 0
Going e = IsSome e.sides.pull.counters

-- who asked for a word of the counters
pub record Asker (st : State) (q c : ℕ) (place : Place) (e : Errand) (used : ℕ) : Type 0 where
  pub at : place ≡ PartnerPlace q
  pub errand : e ≡ errands.Counters c
  pub soon : Going (end_of st q c) ⊎ (used < 2)

-- a step for a partner, or of the partition, is none
peer_never : (k : ℕ) (o : Option PeerRule) (q c : ℕ) → for_peer k o ≡ Some (Load q c) → ⊥
peer_never k None q c h = cc
peer_never k (Some m) q c h = cc

own_never : (b : Bool) (m : OwnRule) (q c : ℕ) → step_if b (Own m) ≡ Some (Load q c) → ⊥
own_never true m q c h = cc
own_never false m q c h = cc

open_never : (b masked : Bool) (k q c : ℕ) → step_if b (open_step masked k) ≡ Some (Load q c) → ⊥
open_never true true k q c h = cc
open_never true false k q c h = cc
open_never false masked k q c h = cc

word_never : (o : Option AreaWord) (masked : Bool) (k : ℕ) (x : Engage) (q c : ℕ) → prepare_by o masked k x ≡ Some (Load q c) → ⊥
word_never None masked k x q c h = open_never (is_prepared x) masked k q c h
word_never (Some w) masked k x q c h = cc

free_never : (b masked : Bool) (k : ℕ) (x : Engage) (q c : ℕ) → (if b then prepare_by (word_missing x) masked k x else Some (ForPeer k ClearDeactivationBit)) ≡ Some (Load q c) → ⊥
free_never true masked k x q c h = word_never (word_missing x) masked k x q c h
free_never false masked k x q c h = cc

prepare_never : (b masked : Bool) (k : ℕ) (x : Engage) (q c : ℕ) → (if b then prepare_free masked k x else None) ≡ Some (Load q c) → ⊥
prepare_never true masked k x q c h = free_never x.deactivation_cleared masked k x q c h
prepare_never false masked k x q c h = cc

-- steps at an end that are none
once_never : (used : ℕ) (r : RingRule) → once used r ≡ Some (Pull ReadCounters) → ⊥
once_never used ReadGet h = by (nat_eq used 0) h where
  by : (b : Bool) → step_if b (Ring ReadGet) ≡ Some (Pull ReadCounters) → ⊥
  by true i = cc
  by false i = cc
once_never used (WriteEntryWord f) h = cc
once_never used AcceptMessage h = cc

send_never : (b : Bool) (used : ℕ) (r : RingRule) → (if b then once used r else None) ≡ Some (Pull ReadCounters) → ⊥
send_never true used r h = once_never used r h
send_never false used r h = cc

take_never : (b : Bool) → step_if b (Pull ReadEntry) ≡ Some (Pull ReadCounters) → ⊥
take_never true h = cc
take_never false h = cc

store_never : (b : Bool) → step_if b Acknowledge ≡ Some (Pull ReadCounters) → ⊥
store_never true h = cc
store_never false h = cc

message_never : (b : Bool) → step_if b (SetFlag MsgRequest) ≡ Some (Pull ReadCounters) → ⊥
message_never true h = cc
message_never false h = cc

argument_never : (b : Bool) (o : Option Argument) → (if b then None else argument_step o) ≡ Some (Pull ReadCounters) → ⊥
argument_never true o h = cc
argument_never false None h = cc
argument_never false (Some x) h = cc

zero_never : (a b d : Bool) → (if not a then ZeroGet else (if not b then ZeroPut else (if d then SetFlag OpenRequest else StoreArgument Request))) ≡ Pull ReadCounters → ⊥
zero_never true true true h = cc
zero_never true true false h = cc
zero_never true false d h = cc
zero_never false b d h = cc

flag_never : (b : Bool) (k : Kind) (x : Argument) → (if b then SetFlag k else StoreArgument x) ≡ Pull ReadCounters → ⊥
flag_never true k x h = cc
flag_never false k x h = cc

kind_never : (k : Kind) (e : End) → control_step k e ≡ Pull ReadCounters → ⊥
kind_never OpenRequest e h = zero_never e.shake.get_zero e.shake.put_zero (has_request e) h
kind_never OpenReply e h = flag_never e.shake.reply_put OpenReply Reply h
kind_never CloseRequest e h = flag_never e.shake.code_put CloseRequest Code h
kind_never CloseReply e h = cc
kind_never OpenComplete e h = cc
kind_never MsgRequest e h = cc

control_never : (o : Option Kind) (e : End) → control_by o e ≡ Some (Pull ReadCounters) → ⊥
control_never None e h = cc
control_never (Some k) e h = kind_never k e (some_is (control_step k e) (Pull ReadCounters) h)

rest_never : (e : End) → control_signal e ≡ Some (Pull ReadCounters) → ⊥
rest_never e h = by (first_is (argument_at e) (control_at e) (Pull ReadCounters) h) where
  by : (argument_at e ≡ Some (Pull ReadCounters)) ⊎ (control_at e ≡ Some (Pull ReadCounters)) → ⊥
  by (inl i) = argument_never e.shake.sent.close_reply (argument_awaited e.shake) i
  by (inr i) = control_never (control_owed e) e i

signal_never : (used : ℕ) (e : End) → signal_at used e ≡ Some (Pull ReadCounters) → ⊥
signal_never used e h = meet (is_some e.shake.meet) h where
  stored : (store_at e ≡ Some (Pull ReadCounters)) ⊎ (control_signal e ≡ Some (Pull ReadCounters)) → ⊥
  stored (inl i) = store_never (owes_store e) i
  stored (inr i) = rest_never e i

  told : (message_at e ≡ Some (Pull ReadCounters)) ⊎ (or_else (store_at e) (control_signal e) ≡ Some (Pull ReadCounters)) → ⊥
  told (inl i) = message_never e.shake.owes_message i
  told (inr i) = stored (first_is (store_at e) (control_signal e) (Pull ReadCounters) i)

  soon : (b : Bool) → (if b then or_else (message_at e) (or_else (store_at e) (control_signal e)) else control_signal e) ≡ Some (Pull ReadCounters) → ⊥
  soon true i = told (first_is (message_at e) (or_else (store_at e) (control_signal e)) (Pull ReadCounters) i)
  soon false i = rest_never e i

  meet : (b : Bool) → (if b then signal_step used e else None) ≡ Some (Pull ReadCounters) → ⊥
  meet true i = soon (nat_lt used 2) i
  meet false i = cc

-- what a step at an end was asked for
record Given (q c k d : ℕ) (o : Option LinkRule) : Type 0 where
  is : o ≡ Some (Pull ReadCounters)
  partner : k ≡ q
  channel : d ≡ c

given_rule : (k d : ℕ) (o : Option LinkRule) (q c : ℕ) → link_rule k d o ≡ Some (Load q c) → Given q c k d o
given_rule k d None q c h = absurd (cc)
given_rule k d (Some m) q c h = let e : m ≡ Pull ReadCounters = cc in record { is = ap (λ (x : LinkRule). Some x) e; partner = cc; channel = cc }

given : (st : State) (k d : ℕ) (o : Option LinkRule) (q c : ℕ) → link_asked st k d o ≡ Some (Load q c) → Given q c k d o
given st k d o q c h = by (is_joined (peer_of st k)) h where
  by : (b : Bool) → (if b then link_rule k d o else None) ≡ Some (Load q c) → Given q c k d o
  by true i = given_rule k d o q c i
  by false i = absurd (cc)

-- a command asks for none
step_never : (used : ℕ) (e : End) (x : Command) → command_step used e x ≡ Some (Pull ReadCounters) → ⊥
step_never used e (commands.Send q c payload wait notify) h = send_never (is_connected e && is_some e.sides.send.send) used (send_step e.sides.send) h
step_never used e (commands.Take q c wait) h = take_never (is_connected e && (is_some e.sides.pull.take && has_entry e.sides.pull)) h
step_never used e (commands.Release q c number) h = store_never (owes_store e) h
step_never used e (commands.Register q c entries limit) h = cc
step_never used e (commands.Unregister q c) h = cc
step_never used e (commands.Connected q c) h = cc
step_never used e (commands.Closed q c) h = cc
step_never used e (commands.Drain q c) h = cc
step_never used e (commands.Net frame) h = cc
step_never used e (commands.Frames count) h = cc
step_never used e (commands.Deactivate q) h = cc
step_never used e (commands.Activate q) h = cc
step_never used e commands.Leave h = cc
step_never used e (commands.Idle turns) h = cc
step_never used e commands.Offline h = cc
step_never used e commands.Online h = cc

named_never : (s : ScenarioPart) (st : State) (used : ℕ) (x : Command) (o : Option EndName) (q c : ℕ) → command_at s st used x o ≡ Some (Load q c) → ⊥
named_never s st used x None q c h = own_never (is_some (offline_asked s st)) StoreOffline q c h
named_never s st used x (Some n) q c h = let g = given st n.partner n.channel (command_step used (end_of st n.partner n.channel) x) q c h in step_never used (end_of st n.partner n.channel) x g.is

command_never : (s : ScenarioPart) (st : State) (used : ℕ) (o : Option Command) (q c : ℕ) → command_asked s st used o ≡ Some (Load q c) → ⊥
command_never s st used None q c h = cc
command_never s st used (Some x) q c h = named_never s st used x (named_end x) q c h

script_never : (s : ScenarioPart) (st : State) (used q c : ℕ) → script_asked s st used ≡ Some (Load q c) → ⊥
script_never s st used q c h = by st.script.doing h where
  by : (b : Bool) → (if b then command_asked s st used (current s st) else None) ≡ Some (Load q c) → ⊥
  by true i = command_never s st used (current s st) q c i
  by false i = cc

-- the counters of a channel
soon_by : (b : Bool) (o : Option ℕ) (used : ℕ) (rest : Bool) → (b && (is_some o || (nat_lt used 2 && rest))) ≡ true → IsSome o ⊎ (used < 2)
soon_by false o used rest h = absurd (cc)
soon_by true (Some g) used rest h = inl refl
soon_by true None used rest h = inr (by (nat_lt used 2) refl h) where
  by : (t : Bool) → nat_lt used 2 ≡ t → (t && rest) ≡ true → used < 2
  by true e f = grind (arith, nat_tests)
  by false e f = absurd (cc)

counters_asked : (st : State) (k d used q c : ℕ) → link_asked st k d (counters_at used (end_of st k d)) ≡ Some (Load q c) → Asker st q c (PartnerPlace k) (errands.Counters d) used
counters_asked st k d used q c h =
    let e = end_of st k d in
    let g = given st k d (counters_at used e) q c h in
    let y = step_is (is_connected e && (is_some e.sides.pull.counters || (nat_lt used 2 && (e.sides.pull.owed || is_polling e.sides.pull)))) (Pull ReadCounters) (Pull ReadCounters) g.is in
    record {
      at = ap (λ (n : ℕ). PartnerPlace n) g.partner;
      errand = ap (λ (n : ℕ). errands.Counters n) g.channel;
      soon = subst (λ (n : ℕ). Going (end_of st n c) ⊎ (used < 2)) g.partner (subst (λ (n : ℕ). Going (end_of st k n) ⊎ (used < 2)) g.channel (soon_by (is_connected e) e.sides.pull.counters used (e.sides.pull.owed || is_polling e.sides.pull) y.0));
    }

at_partner : (s : ScenarioPart) (st : State) (k : ℕ) (e : Errand) (used q c : ℕ) → ask_partner s k e used st ≡ Some (Load q c) → Asker st q c (PartnerPlace k) e used
at_partner s st k errands.Look used q c h = absurd (peer_never k _ q c h)
at_partner s st k errands.Prepare used q c h = absurd (prepare_never (is_off (peer_of st k).engage.area && ((peer_of st k).wanted && nat_lt (peer_of st k).engage.count 4294967295)) (here_of s st k).masked k (peer_of st k).engage q c h)
at_partner s st k errands.Engage used q c h = absurd (peer_never k _ q c h)
at_partner s st k errands.Answer used q c h = absurd (peer_never k _ q c h)
at_partner s st k errands.Record used q c h = absurd (peer_never k _ q c h)
at_partner s st k errands.Flags used q c h = absurd (peer_never k _ q c h)
at_partner s st k errands.Check used q c h = absurd (peer_never k _ q c h)
at_partner s st k (errands.Signal d) used q c h = absurd (let g = given st k d (signal_at used (end_of st k d)) q c h in signal_never used (end_of st k d) g.is)
at_partner s st k (errands.Counters d) used q c h = counters_asked st k d used q c h
at_partner s st k errands.Bulk used q c h = absurd (script_never s st used q c h)
at_partner s st k errands.Leave used q c h = absurd (peer_never k _ q c h)
at_partner s st k errands.Boot used q c h = absurd (cc)
at_partner s st k errands.Beat used q c h = absurd (cc)
at_partner s st k errands.Mask used q c h = absurd (cc)
at_partner s st k errands.Activations used q c h = absurd (cc)
at_partner s st k errands.Deactivations used q c h = absurd (cc)
at_partner s st k errands.Engagements used q c h = absurd (cc)
at_partner s st k errands.Script used q c h = absurd (cc)

at_own : (s : ScenarioPart) (st : State) (e : Errand) (used q c : ℕ) → ask_own s e used st ≡ Some (Load q c) → ⊥
at_own s st errands.Beat used q c h = own_never _ _ q c h
at_own s st errands.Mask used q c h = own_never _ _ q c h
at_own s st errands.Activations used q c h = cc
at_own s st errands.Deactivations used q c h = cc
at_own s st errands.Engagements used q c h = own_never _ _ q c h
at_own s st errands.Script used q c h = script_never s st used q c h
at_own s st errands.Boot used q c h = cc
at_own s st errands.Look used q c h = cc
at_own s st errands.Prepare used q c h = cc
at_own s st errands.Engage used q c h = cc
at_own s st errands.Answer used q c h = cc
at_own s st errands.Record used q c h = cc
at_own s st errands.Flags used q c h = cc
at_own s st errands.Check used q c h = cc
at_own s st (errands.Signal d) used q c h = cc
at_own s st (errands.Counters d) used q c h = cc
at_own s st errands.Bulk used q c h = cc
at_own s st errands.Leave used q c h = cc

at_place : (s : ScenarioPart) (st : State) (place : Place) (e : Errand) (used q c : ℕ) → ask_up s place e used st ≡ Some (Load q c) → Asker st q c place e used
at_place s st OwnPlace e used q c h = absurd (at_own s st e used q c h)
at_place s st (PartnerPlace k) e used q c h = at_partner s st k e used q c h

asked_is : (o : Option Rule) (r : Rule) → asked o ≡ Some (Some r) → o ≡ Some r
asked_is None r e = absurd (cc)
asked_is (Some x) r e = some_is (Some x) (Some r) e

pub asker : (s : ScenarioPart) (boot : ℕ) (st : State) (place : Place) (e : Errand) (used q c : ℕ) → IsUp boot st → asked (ask_by st.life s place e used st) ≡ Some (Some (Load q c)) → Asker st q c place e used
asker s boot st place e used q c up h = at_place s st place e used q c (subst (λ (l : Life). ask_by l s place e used st ≡ Some (Load q c)) up.up (asked_is (ask_by st.life s place e used st) (Load q c) h))

-- a partner has one place
partner_number : (own at q : ℕ) (b c : Bool) → nat_eq at 0 ≡ b → nat_lt own at ≡ c → (if b then OwnPlace else (if c then PartnerPlace at else PartnerPlace (at - 1))) ≡ PartnerPlace q → ((own < at) × (at ≡ q)) ⊎ ((at ≤ own) × (at ≡ q + 1))
partner_number own at q true c e f h = absurd (cc)
partner_number own at q false true e f h = inl (grind (arith, nat_tests), cc)
partner_number own at q false false e f h = let g : at - 1 ≡ q = cc in inr (grind (arith, nat_tests), by g) where
  some : 0 < at
  some = grind (arith, nat_tests)

  by : at - 1 ≡ q → at ≡ q + 1
  by g = let l = some in omega (arith, l, g)

pub one_place : (own a b q : ℕ) → place_at own a ≡ PartnerPlace q → place_at own b ≡ PartnerPlace q → a ≡ b
one_place own a b q h i = by (partner_number own a q (nat_eq a 0) (nat_lt own a) refl refl h) (partner_number own b q (nat_eq b 0) (nat_lt own b) refl refl i) where
  by : ((own < a) × (a ≡ q)) ⊎ ((a ≤ own) × (a ≡ q + 1)) → ((own < b) × (b ≡ q)) ⊎ ((b ≤ own) × (b ≡ q + 1)) → a ≡ b
  by (inl x) (inl y) = x.1 ∙ sym y.1
  by (inr x) (inr y) = x.1 ∙ sym y.1
  by (inl x) (inr y) = omega (arith, x.0, x.1, y.0, y.1)
  by (inr x) (inl y) = omega (arith, x.0, x.1, y.0, y.1)
