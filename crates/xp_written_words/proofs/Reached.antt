-- Each word fits its place after every history that the rules reach.
use Rattle.std.proofs.Common.{◌≡◌, ℕ, zero, suc, ◌+◌, ◌-◌, ◌^◌, ◌<◌, ◌≤◌, Bool, true, false, ◌&&◌, not, cond, List, [], ◌∷◌, length, get_or, refl, ap, sym, ◌∙◌, subst, arith, Option, Some, None, inl, inr, ◌⊎◌}
use Rattle.std.specs.Prelude.{sum_by, nat_lt}
use Rattle.std.specs.List.{slice_get}
use Rattle.std.proofs.lemmas.Bool.{cases_eq, cases_lt, ne_eqb}
use Rattle.std.proofs.lemmas.List.{get_or_past}
use Rattle.std.proofs.lemmas.List.Sums.{get_or-le-sum_by}
use Rattle.xp_base.specs.declared.layout.TheConstants.{STAMP}
use Rattle.xp_base.specs.declared.step.Answer.TheVariants.{Word, Failed}
use Rattle.xp_base.specs.declared.step.OpKind.{OpKind}
use Rattle.xp_base.specs.declared.step.OpKind.TheVariants.{Load, Store, Or, And, Take}
use Rattle.xp_base.specs.Memory.{Memory, answer_of}
use Rattle.xp_base.specs.History.{Act, Event, turns_of}
use Rattle.xp_base.specs.Places.{Open}
use Rattle.xp_script.specs.declared.command.Command.{Command}
use Rattle.xp_script.specs.declared.command.Command.TheVariants as commands
use Rattle.xp_script.specs.declared.limits.TheConstants.{COMMAND_LIMIT}
use Rattle.xp_script.specs.declared.part.ScenarioPart.{ScenarioPart}
use Rattle.xp_script.specs.declared.scenario.Scenario.{Scenario}
use Rattle.xp_script.specs.Lawful.{IsLawful, IsLawfulCommand, AreLawfulCommands, AreLawfulBoots, boots_of}
use Rattle.xp_script.specs.Opening.{opening}
use Rattle.xp_script.specs.Parts.{part_of}
use Rattle.xp_script.specs.Settings.{minor_of}
use Rattle.xp_script.specs.Sizes.{longest_limit}
use Rattle.xp_script.specs.Totals.{boots_commands}
use Rattle.xp_protocol.specs.declared.rule.AreaWord.TheVariants.{SessionWord, EchoWord, PlaceWord, ArgsWord, FlagWord, CounterWord}
use Rattle.xp_protocol.specs.declared.rule.RingRule.TheVariants.{ReadGet, WriteEntryWord, AcceptMessage}
use Rattle.xp_protocol.specs.declared.rule.PullRule.TheVariants.{ReadCounters, ReadEntry}
use Rattle.xp_protocol.specs.declared.rule.LinkRule.TheVariants.{Ring, Pull, Acknowledge, SetFlag, ZeroGet, ZeroPut, StoreArgument, ReadArgument}
use Rattle.xp_protocol.specs.declared.rule.PeerRule.TheVariants.{AskActivation, TakeFlags, CloseArea, ZeroMagic, ClearOldBit, Prepare, OpenArea, SetEngagementBit, ReadRecord, StoreEcho, StoreSecond, ClearEngagementBit, LookAtPage, CheckBeat, ClearDeactivationBit, TellPartner}
use Rattle.xp_protocol.specs.declared.rule.OwnRule.TheVariants.{ReadEngaged, TakeDeactivation, ReadStamp, ZeroMask, ZeroOffline, WriteStamp, StoreMask, TakeActivation, StoreBeat, StoreOffline}
use Rattle.xp_protocol.specs.declared.rule.Rule.{Rule}
use Rattle.xp_protocol.specs.declared.rule.Rule.TheVariants.{Link, Peer as ForPeer, Own}
use Rattle.xp_protocol.specs.Parts.{script_in}
use Rattle.xp_protocol.specs.Peering.{or_zero}
use Rattle.xp_protocol.specs.State.{State}
use Rattle.xp_protocol.specs.Rules.{Can, row_of, owner}
use Rattle.xp_protocol.specs.Acts.{MayAct, Aim, with_aim, aimed}
use Rattle.xp_protocol.specs.Runs.{turned, moment_by, restart_comes, stop_comes, is_over}
use Rattle.xp_protocol.specs.Reached.{ReachedWords}
use Rattle.xp_protocol.proofs.Undo.{within, owner_low}
use Rattle.xp_protocol.proofs.LawfulParts.{lawful_part, request_size}
use Rattle.xp_meetings.proofs.Always.{at_one, one_here, does_rule, answer_word, always}
use Rattle.xp_meetings.proofs.Opening.{opening_words, agrees_opening}
use Rattle.xp_meetings.proofs.Parts.{Part, part_act, part_ruled, part_moment, part_opened, part_start, part_from, from_state}
use Rattle.xp_meetings.proofs.Starts.{starts}
use Rattle.xp_meetings.proofs.Words.{Words, Agrees, far, self}
use Rattle.xp_written_words.proofs.Fits.{AllFit, does_fits}
use Rattle.xp_written_words.proofs.Ends.{IsBackedCommand}
use Rattle.xp_written_words.proofs.Parts.{Knows, known_rule, known_act, known_moment}
use Rattle.xp_written_words.proofs.Rules.{good}
use Rattle.xp_written_words.proofs.Boots.{boots_few, restarts_counted}
use Rattle.xp_written_words.proofs.Opening.{opened_fits, opened_known}

-- ---- the stamp is stored by one rule alone
stamp_kept : (su : ScenarioPart) (st : State) (r : Rule) (w : Words) (q : ℕ) → (r ≡ Own WriteStamp → su.part ≡ q → ⊥) → does_rule su st r w q (Open STAMP) ≡ w q (Open STAMP)
stamp_kept su st (Own WriteStamp) w q n = far (Store (or_zero st.boot.read + 1)) su.part (Open STAMP) w q (Open STAMP) (λ e. n refl e)
stamp_kept su st (Link k c (Ring ReadGet)) w q n = refl
stamp_kept su st (Link k c (Ring (WriteEntryWord f))) w q n = refl
stamp_kept su st (Link k c (Ring AcceptMessage)) w q n = refl
stamp_kept su st (Link k c (Pull ReadCounters)) w q n = refl
stamp_kept su st (Link k c (Pull ReadEntry)) w q n = refl
stamp_kept su st (Link k c Acknowledge) w q n = refl
stamp_kept su st (Link k c (SetFlag j)) w q n = refl
stamp_kept su st (Link k c ZeroGet) w q n = refl
stamp_kept su st (Link k c ZeroPut) w q n = refl
stamp_kept su st (Link k c (StoreArgument x)) w q n = refl
stamp_kept su st (Link k c (ReadArgument x)) w q n = refl
stamp_kept su st (ForPeer k AskActivation) w q n = refl
stamp_kept su st (ForPeer k TakeFlags) w q n = refl
stamp_kept su st (ForPeer k CloseArea) w q n = refl
stamp_kept su st (ForPeer k ZeroMagic) w q n = refl
stamp_kept su st (ForPeer k ClearOldBit) w q n = refl
stamp_kept su st (ForPeer k (Prepare SessionWord)) w q n = refl
stamp_kept su st (ForPeer k (Prepare EchoWord)) w q n = refl
stamp_kept su st (ForPeer k (Prepare (PlaceWord x))) w q n = refl
stamp_kept su st (ForPeer k (Prepare (ArgsWord c f))) w q n = refl
stamp_kept su st (ForPeer k (Prepare FlagWord)) w q n = refl
stamp_kept su st (ForPeer k (Prepare (CounterWord c f))) w q n = refl
stamp_kept su st (ForPeer k OpenArea) w q n = refl
stamp_kept su st (ForPeer k SetEngagementBit) w q n = refl
stamp_kept su st (ForPeer k ReadRecord) w q n = refl
stamp_kept su st (ForPeer k StoreEcho) w q n = refl
stamp_kept su st (ForPeer k StoreSecond) w q n = refl
stamp_kept su st (ForPeer k ClearEngagementBit) w q n = refl
stamp_kept su st (ForPeer k LookAtPage) w q n = refl
stamp_kept su st (ForPeer k CheckBeat) w q n = refl
stamp_kept su st (ForPeer k ClearDeactivationBit) w q n = refl
stamp_kept su st (ForPeer k TellPartner) w q n = refl
stamp_kept su st (Own ReadEngaged) w q n = refl
stamp_kept su st (Own TakeDeactivation) w q n = refl
stamp_kept su st (Own ReadStamp) w q n = refl
stamp_kept su st (Own ZeroMask) w q n = refl
stamp_kept su st (Own ZeroOffline) w q n = refl
stamp_kept su st (Own StoreMask) w q n = refl
stamp_kept su st (Own TakeActivation) w q n = refl
stamp_kept su st (Own StoreBeat) w q n = refl
stamp_kept su st (Own StoreOffline) w q n = refl

stamp_put : (su : ScenarioPart) (st : State) (w : Words) → does_rule su st (Own WriteStamp) w su.part (Open STAMP) ≡ or_zero st.boot.read + 1
stamp_put su st w = rw (self su.part) refl

answer_small : (k : OpKind) (x : ℕ) → x < 2 ^ 64 → answer_of k x < 2 ^ 64
answer_small Load x h = h
answer_small (Store v) x h = omega arith
answer_small (Or v) x h = h
answer_small (And v) x h = h
answer_small Take x h = h

same_answer : (v w : ℕ) → Word v ≡ Word w → v ≡ w
same_answer v w e = cc

-- ---- the commands of a lawful scenario
listed_lawful : (n own minor : ℕ) (xs : List Command) (i : ℕ) (x : Command) → AreLawfulCommands n own minor xs → slice_get xs i ≡ Some x → IsLawfulCommand n own minor x
listed_lawful n own minor [] i x h e = absurd (cc)
listed_lawful n own minor (y ∷ ys) zero x h e = let d : y ≡ x = cc in subst (λ (z : Command). IsLawfulCommand n own minor z) d h.0
listed_lawful n own minor (y ∷ ys) (suc i) x h e = listed_lawful n own minor ys i x h.1 e

script_lawful : (n own minor : ℕ) (boots : List (List Command)) (i : ℕ) → AreLawfulBoots n own minor boots → AreLawfulCommands n own minor (get_or boots i [])
script_lawful n own minor [] i h = tt
script_lawful n own minor (xs ∷ more) zero h = h.0
script_lawful n own minor (xs ∷ more) (suc i) h = script_lawful n own minor more i h.1

backed_command : (n own minor : ℕ) (x : Command) → IsLawfulCommand n own minor x → IsBackedCommand (longest_limit minor) x
backed_command n own minor (commands.Register q c entries limit) h = (request_size minor entries limit h.1, h.1.short)
backed_command n own minor (commands.Send q c payload wait notify) h = h.2
backed_command n own minor (commands.Unregister q c) h = tt
backed_command n own minor (commands.Connected q c) h = tt
backed_command n own minor (commands.Closed q c) h = tt
backed_command n own minor (commands.Take q c wait) h = tt
backed_command n own minor (commands.Release q c number) h = tt
backed_command n own minor (commands.Drain q c) h = tt
backed_command n own minor (commands.Net frame) h = tt
backed_command n own minor (commands.Frames count) h = tt
backed_command n own minor (commands.Deactivate q) h = tt
backed_command n own minor (commands.Activate q) h = tt
backed_command n own minor commands.Leave h = tt
backed_command n own minor (commands.Idle turns) h = tt
backed_command n own minor commands.Offline h = tt
backed_command n own minor commands.Online h = tt

-- a part of a sum
part_low : {A : Type 0} (f : A → ℕ) (xs : List A) (i : ℕ) (d : A) → f d ≡ 0 → f (get_or xs i d) ≤ sum_by f xs
part_low f xs i d z = by (cases_lt i (length xs)) where
  by : (i < length xs) ⊎ (length xs ≤ i) → f (get_or xs i d) ≤ sum_by f xs
  by (inl l) = get_or-le-sum_by f xs i d l
  by (inr l) = let e : f (get_or xs i d) ≡ 0 = ap f (get_or_past xs i d l) ∙ z in omega (arith, e)

module _ (s : Scenario) (law : IsLawful s) where
  abbrev minor : ℕ → ℕ
  minor p = minor_of p s.minors

  abbrev most : ℕ → ℕ
  most p = longest_limit (minor p)

  few_commands : (p boot : ℕ) → length (script_in (part_of s p) boot) ≤ COMMAND_LIMIT
  unfolding boots_commands
  few_commands p boot =
      let one : length (get_or (boots_of s p) (boot - 1) []) ≤ boots_commands (boots_of s p) = part_low {A = List Command} length (boots_of s p) (boot - 1) [] refl in
      let all : boots_commands (boots_of s p) ≤ sum_by boots_commands s.scripts = part_low {A = List (List Command)} boots_commands s.scripts p [] refl in
      let limit = law.limits.commands in
      omega (arith, one, all, limit)

  lawful_command : (p : ℕ) → p < s.count → (boot i : ℕ) (x : Command) → slice_get (script_in (part_of s p) boot) i ≡ Some x → IsBackedCommand (most p) x
  lawful_command p l boot i x e = backed_command s.count p (minor p) x (listed_lawful s.count p (minor p) (script_in (part_of s p) boot) i x (script_lawful s.count p (minor p) (boots_of s p) (boot - 1) (law.scripts.boots p l).commands) e)

  line_low : (p : ℕ) → 112 ≤ most p
  line_low p = by (nat_lt 1 (minor p)) where
    by : (b : Bool) → 112 ≤ cond b 1008 112
    by true = omega arith
    by false = omega arith

  -- what holds as long as no partition has booted more often than it may
  pub record Sound (w : Words) (σ : ℕ → Part) : Type 0 where
    pub words : AllFit s.count minor w
    pub known : (p : ℕ) → p < s.count → Knows (part_of s p) (most p) (w p (Open STAMP)) (σ p).state

  abbrev Few : (ℕ → Part) → Type 0
  Few σ = (p : ℕ) → p < s.count → (σ p).state.clock.boots ≤ 64

  abbrev Inv : Words → (ℕ → Part) → Type 0
  Inv w σ = Few σ → Sound w σ

  kept_far : (σ : ℕ → Part) (q : ℕ) (new : Part) (p : ℕ) → (p ≡ q → ⊥) → at_one σ q new p ≡ σ p
  kept_far σ q new p d = rw (ne_eqb q p (λ e. d (sym e))) refl

  few_before : (σ : ℕ → Part) (q : ℕ) (new : Part) → q < s.count → (σ q).state.clock.boots ≤ new.state.clock.boots → Few (at_one σ q new) → Few σ
  few_before σ q new lq l few p lp = by (cases_eq p q) where
    by : (p ≡ q) ⊎ (p ≡ q → ⊥) → (σ p).state.clock.boots ≤ 64
    by (inl e) =
        let here : new.state.clock.boots ≤ 64 = subst (λ (y : Part). y.state.clock.boots ≤ 64) (one_here σ q new) (few q lq) in
        subst (λ (x : ℕ). (σ x).state.clock.boots ≤ 64) (sym e) (omega (arith, here, l))
    by (inr d) = subst (λ (y : Part). y.state.clock.boots ≤ 64) (kept_far σ q new p d) (few p lp)

  abbrev KnownAt : Words → ℕ → Part → Type 0
  KnownAt w p y = Knows (part_of s p) (most p) (w p (Open STAMP)) y.state

  moved : (w w' : Words) (σ : ℕ → Part) (q : ℕ) (new : Part) → AllFit s.count minor w' → Knows (part_of s q) (most q) (w' q (Open STAMP)) new.state → ((p : ℕ) → (p ≡ q → ⊥) → w' p (Open STAMP) ≡ w p (Open STAMP)) → Sound w σ → Sound w' (at_one σ q new)
  moved w w' σ q new words here still h = record { words = words; known = λ p l. by p l (cases_eq p q) } where
    by : (p : ℕ) → p < s.count → (p ≡ q) ⊎ (p ≡ q → ⊥) → KnownAt w' p (at_one σ q new p)
    by p l (inl e) = subst (λ (x : ℕ). KnownAt w' x (at_one σ q new x)) (sym e) (subst (λ (y : Part). KnownAt w' q y) (sym (one_here σ q new)) here)
    by p l (inr d) = subst (λ (y : Part). KnownAt w' p y) (sym (kept_far σ q new p d)) (subst (λ (v : ℕ). Knows (part_of s p) (most p) v (σ p).state) (sym (still p d)) (h.known p l))

  -- a step
  module _ (w : Words) (σ : ℕ → Part) (q : ℕ) (lq : q < s.count) (few : Few σ) (i : Sound w σ) (r : Rule) (can : Can (part_of s q) (σ q).state r) where
    abbrev su : ScenarioPart
    su = part_of s q

    abbrev st : State
    st = (σ q).state

    abbrev word : ℕ
    word = answer_word su st r w

    abbrev after : Words
    after = does_rule su st r w

    ruled_words : AllFit s.count minor after
    ruled_words = does_fits s.count minor w (row_of su st r).kind (owner su st r) (row_of su st r).place (good s law w q lq st i.words (i.known q lq) (few q lq) (few_commands q st.clock.boots) r can) i.words

    word_low : word < 2 ^ 64
    word_low =
        let lawful = lawful_part s q law lq in
        answer_small (row_of su st r).kind (w (owner su st r) (row_of su st r).place) (i.words (owner su st r) (row_of su st r).place (owner_low su st r lawful can) (within su st r lawful can)).small

    ruled : Sound after (at_one σ q (part_ruled su (σ q) r (Word word)))
    ruled = moved w after σ q (part_ruled su (σ q) r (Word word)) ruled_words
        (known_rule su (most q) (line_low q) (w q (Open STAMP)) st (i.known q lq) r (Word word) (after q (Open STAMP)) can
        (λ v e. subst (λ (x : ℕ). x < 2 ^ 64) (same_answer word v e) word_low)
        (λ e v d. sym (same_answer word v d) ∙ ap (λ (x : Rule). answer_word su st x w) e)
        (λ e v d. ap (λ (x : Rule). does_rule su st x w q (Open STAMP)) e ∙ stamp_put su st w)
        (λ n. stamp_kept su st r w q (λ e d. n e word refl)))
        (λ p d. stamp_kept su st r w p (λ e f. d (sym f))) i

    failed : Sound w (at_one σ q (part_ruled su (σ q) r Failed))
    failed = moved w w σ q (part_ruled su (σ q) r Failed) i.words
        (known_rule su (most q) (line_low q) (w q (Open STAMP)) st (i.known q lq) r Failed (w q (Open STAMP)) can
        (λ v e. absurd (cc)) (λ e v d. absurd (cc)) (λ e v d. absurd (cc)) (λ n. refl))
        (λ p d. refl) i

  aim_boots : (o : Option Aim) (st : State) → st.clock.boots ≤ (with_aim o st).clock.boots
  aim_boots None st = omega arith
  aim_boots (Some y) st = omega arith

  keeps_act : (w : Words) (σ : ℕ → Part) (q : ℕ) (a : Act) → q < s.count → Inv w σ → MayAct (part_of s q) (σ q).state a → Inv w (at_one σ q (part_act (part_of s q) (σ q) a))
  keeps_act w σ q a lq inv may few =
      let new = part_act (part_of s q) (σ q) a in
      let i = inv (few_before σ q new lq (aim_boots (aimed (part_of s q) (σ q).state a) (σ q).state) few) in
      moved w w σ q new i.words (known_act (part_of s q) (most q) (line_low q) (w q (Open STAMP)) (σ q).state (i.known q lq) (lawful_command q lq) a may) (λ p d. refl) i

  keeps_rule : (w : Words) (σ : ℕ → Part) (q : ℕ) (r : Rule) → q < s.count → Inv w σ → Can (part_of s q) (σ q).state r → Inv (does_rule (part_of s q) (σ q).state r w) (at_one σ q (part_ruled (part_of s q) (σ q) r (Word (answer_word (part_of s q) (σ q).state r w))))
  keeps_rule w σ q r lq inv can few =
      let before = few_before σ q (part_ruled (part_of s q) (σ q) r (Word (answer_word (part_of s q) (σ q).state r w))) lq (omega arith) few in
      ruled w σ q lq before (inv before) r can

  keeps_failed : (w : Words) (σ : ℕ → Part) (q : ℕ) (r : Rule) → q < s.count → Inv w σ → Can (part_of s q) (σ q).state r → Inv w (at_one σ q (part_ruled (part_of s q) (σ q) r Failed))
  keeps_failed w σ q r lq inv can few =
      let before = few_before σ q (part_ruled (part_of s q) (σ q) r Failed) lq (omega arith) few in
      failed w σ q lq before (inv before) r can

  moment_boots : (su : ScenarioPart) (st : State) (turns : ℕ) (b stops : Bool) → st.clock.boots ≤ (moment_by su b stops (turned turns st)).clock.boots
  moment_boots su st turns true stops = omega arith
  moment_boots su st turns false true = omega arith
  moment_boots su st turns false false = omega arith

  keeps_moment : (w : Words) (σ : ℕ → Part) (q earlier turns : ℕ) → q < s.count → Inv w σ → Inv w (at_one σ q (part_moment (part_of s q) earlier turns (σ q)))
  keeps_moment w σ q earlier turns lq inv few =
      let su = part_of s q in
      let now = turned turns (σ q).state in
      let new = part_moment su earlier turns (σ q) in
      let i = inv (few_before σ q new lq (moment_boots su (σ q).state turns (restart_comes su earlier now && not (is_over now)) (stop_comes su earlier now && not (is_over now))) few) in
      moved w w σ q new i.words (known_moment su (most q) (line_low q) (w q (Open STAMP)) (σ q).state (i.known q lq) earlier turns) (λ p d. refl) i

  first : Inv (opening_words s) (λ p. part_opened (part_of s p))
  first few = record { words = λ p x l w. opened_fits s law p l x w; known = λ p l. opened_known s law p l }

  -- no partition boots more often than it may
  abbrev part_after : List Event → ℕ → Part
  part_after h p = part_from (part_of s p) (part_start (part_of s p)) (turns_of p h)

  few_boots : (h : List Event) → Few (part_after h)
  few_boots h p l =
      let su = part_of s p in
      let e = from_state su (part_start su) (turns_of p h) in
      let b = boots_few su (turns_of p h) in
      let c = restarts_counted p s.restarts in
      let f = law.settings.restarts.few p l in
      subst (λ (st : State). st.clock.boots ≤ 64) (sym e) (omega (arith, b, c, f))

  pub all_fit : (h : List Event) (m : Memory) → ReachedWords s h m → (w : Words) × Agrees s.count m w × AllFit s.count minor w
  all_fit h m r =
      let k = always (part_of s) s.count (λ p l. record { lawful = lawful_part s p law l; part = refl; count = refl }) Inv keeps_act keeps_rule keeps_failed keeps_moment h (opening s) m (opening_words s) (λ p. part_start (part_of s p)) r.parts r.legal r.runs (agrees_opening s law) (starts s law Inv keeps_moment (opening_words s) first) in
      (k.0, k.1, (k.2 (few_boots h)).words)
