-- No word of another partition's channel memory is touched without the own engagement bit there, and nobody else changes that bit.
use Rattle.std.proofs.Common.{◌≡◌, ℕ, ◌<◌, Bool, true, false, cond, eqb, List, [], ◌∷◌, ◌++◌, refl, ap, sym, ◌∙◌, subst, arith, Option, Some, None, bit_and, bit_or, ◌^◌}
use Rattle.std.specs.Prelude.{IsSome}
use Rattle.std.specs.Int.{bit_at}
use Rattle.std.proofs.lemmas.Bool.{eqb-true, ne_eqb}
use Rattle.xp_base.specs.declared.step.Op.{Op}
use Rattle.xp_base.specs.declared.step.OpKind.TheVariants.{Or, And}
use Rattle.xp_base.specs.declared.step.Answer.{Answer}
use Rattle.xp_base.specs.declared.step.Answer.TheVariants.{Word, Failed}
use Rattle.xp_base.specs.Memory.{Memory, word_at}
use Rattle.xp_base.specs.declared.layout.TheConstants.{PARTS, ENGAGED}
use Rattle.xp_base.specs.History.{Marked, Turn, Event, Turned, after_made, after_answer}
use Rattle.xp_base.specs.Places.{Open, place_of, region_of, index_of, place_of-index_of}
use Rattle.xp_protocol.specs.declared.rule.AreaWord.TheVariants.{SessionWord, EchoWord, PlaceWord, ArgsWord, FlagWord, CounterWord}
use Rattle.xp_protocol.specs.declared.rule.RingRule.TheVariants.{ReadGet, WriteEntryWord, AcceptMessage}
use Rattle.xp_protocol.specs.declared.rule.PullRule.TheVariants.{ReadCounters, ReadEntry}
use Rattle.xp_protocol.specs.declared.rule.LinkRule.TheVariants.{Ring, Pull, Acknowledge, SetFlag, ZeroGet, ZeroPut, StoreArgument, ReadArgument}
use Rattle.xp_protocol.specs.declared.rule.PeerRule.TheVariants.{AskActivation, TakeFlags, CloseArea, ZeroMagic, ClearOldBit, Prepare, OpenArea, SetEngagementBit, ReadRecord, StoreEcho, StoreSecond, ClearEngagementBit, LookAtPage, CheckBeat, ClearDeactivationBit, TellPartner}
use Rattle.xp_protocol.specs.declared.rule.OwnRule.TheVariants.{ReadEngaged, TakeDeactivation, ReadStamp, ZeroMask, ZeroOffline, WriteStamp, StoreMask, TakeActivation, StoreBeat, StoreOffline}
use Rattle.xp_protocol.specs.declared.rule.Rule.{Rule}
use Rattle.xp_protocol.specs.declared.rule.Rule.TheVariants.{Link, Peer as ForPeer, Own}
use Rattle.xp_script.specs.declared.part.ScenarioPart.{ScenarioPart}
use Rattle.xp_script.specs.declared.scenario.Scenario.{Scenario}
use Rattle.xp_script.specs.Parts.{part_of}
use Rattle.xp_script.specs.Opening.{opening}
use Rattle.xp_script.specs.Lawful.{IsLawful}
use Rattle.xp_protocol.specs.Effects.{all_but}
use Rattle.xp_protocol.specs.State.{State, peer_of}
use Rattle.xp_protocol.specs.Rules.{Can, row_of, owner, op_of}
use Rattle.xp_protocol.specs.Runs.{MayMake}
use Rattle.xp_protocol.specs.Reached.{ReachedWords}
use Rattle.xp_protocol.specs.Promised.{Guarded, IsOpenTo, memory_by, engaged_at}
use Rattle.xp_protocol.proofs.Undo.{within, owner_low}
use Rattle.xp_protocol.proofs.LawfulParts.{lawful_part}
use Rattle.xp_meetings.proofs.Bits.{or_else, and_else}
use Rattle.xp_meetings.proofs.Words.{Words, does, Agrees, agrees}
use Rattle.xp_meetings.proofs.Parts.{Part}
use Rattle.xp_meetings.proofs.Always.{at_one, one_here, does_rule}
use Rattle.xp_meetings.proofs.Meets.{Met, PairAt, keeps_act, keeps_rule, keeps_failed, keeps_moment}
use Rattle.xp_meetings.proofs.Firsts.{met_start}
use Rattle.xp_promises.proofs.Before.{Before, before_step, part_at, at_step, memory-append}

same_owner : (b : Bool) (n : ℕ) → cond b n n ≡ n
same_owner true n = refl
same_owner false n = refl

-- a step on a partner's word is on an open one, or on one of its memory for the own partition while the own bit stands there
opens : (su : ScenarioPart) (st : State) (r : Rule) (w : Words) → Can su st r → (owner su st r ≡ su.part → ⊥) → ((q : ℕ) → q < su.count → (su.part ≡ q → ⊥) → (peer_of st q).engage.bit ≡ true → bit_at (w q (Open ENGAGED)) su.part ≡ 1) → ((q : ℕ) → q < su.count → (su.part ≡ q → ⊥) → IsSome (peer_of st q).contact → bit_at (w q (Open ENGAGED)) su.part ≡ 1) → IsOpenTo su.part (w (owner su st r) (Open ENGAGED)) (region_of (row_of su st r).place)
opens su st (Link q c (Ring ReadGet)) w can n bit met = (refl, met q can.1.0.peer.0 (λ e. can.1.0.peer.1 (sym e)) can.1.0.contact)
opens su st (Link q c (Ring (WriteEntryWord f))) w can n bit met = absurd (n refl)
opens su st (Link q c (Ring AcceptMessage)) w can n bit met = absurd (n refl)
opens su st (Link q c (Pull ReadCounters)) w can n bit met = (refl, met q can.1.0.peer.0 (λ e. can.1.0.peer.1 (sym e)) can.1.0.contact)
opens su st (Link q c (Pull ReadEntry)) w can n bit met = (refl, met q can.1.0.peer.0 (λ e. can.1.0.peer.1 (sym e)) can.1.0.contact)
opens su st (Link q c Acknowledge) w can n bit met = absurd (n refl)
opens su st (Link q c (SetFlag k)) w can n bit met = (refl, met q can.1.0.peer.0 (λ e. can.1.0.peer.1 (sym e)) can.1.0.contact)
opens su st (Link q c ZeroGet) w can n bit met = absurd (n refl)
opens su st (Link q c ZeroPut) w can n bit met = absurd (n refl)
opens su st (Link q c (StoreArgument x)) w can n bit met = absurd (n refl)
opens su st (Link q c (ReadArgument x)) w can n bit met = (refl, met q can.1.0.peer.0 (λ e. can.1.0.peer.1 (sym e)) can.1.0.contact)
opens su st (ForPeer q AskActivation) w can n bit met = tt
opens su st (ForPeer q TakeFlags) w can n bit met = absurd (n refl)
opens su st (ForPeer q CloseArea) w can n bit met = absurd (n refl)
opens su st (ForPeer q ZeroMagic) w can n bit met = absurd (n refl)
opens su st (ForPeer q ClearOldBit) w can n bit met = tt
opens su st (ForPeer q (Prepare x)) w can n bit met = absurd (n refl)
opens su st (ForPeer q OpenArea) w can n bit met = absurd (n refl)
opens su st (ForPeer q SetEngagementBit) w can n bit met = tt
opens su st (ForPeer q ReadRecord) w can n bit met = (refl, bit q can.1.0.low (λ e. can.1.0.other (sym e)) can.1.1.2)
opens su st (ForPeer q StoreEcho) w can n bit met = absurd (n refl)
opens su st (ForPeer q StoreSecond) w can n bit met = absurd (n refl)
opens su st (ForPeer q ClearEngagementBit) w can n bit met = tt
opens su st (ForPeer q LookAtPage) w can n bit met = tt
opens su st (ForPeer q CheckBeat) w can n bit met = tt
opens su st (ForPeer q ClearDeactivationBit) w can n bit met = absurd (n refl)
opens su st (ForPeer q TellPartner) w can n bit met = tt
opens su st (Own m) w can n bit met = absurd (n (same_owner (row_of su st (Own m)).own su.part))

-- the engagement bits of others are as they were
or_bits : (w : Words) (a k q i : ℕ) → (a ≡ i → ⊥) → bit_at (does (Or (2 ^ a)) k (Open ENGAGED) w q (Open ENGAGED)) i ≡ bit_at (w q (Open ENGAGED)) i
or_bits w a k q i n = by (eqb k q) refl where
  by : (b : Bool) → eqb k q ≡ b → bit_at (cond b (bit_or (w k (Open ENGAGED)) (2 ^ a)) (w q (Open ENGAGED))) i ≡ bit_at (w q (Open ENGAGED)) i
  by false e = refl
  by true e = or_else (w k (Open ENGAGED)) a i n ∙ ap (λ (x : ℕ). bit_at (w x (Open ENGAGED)) i) (eqb-true k q e)

and_bits : (w : Words) (a k q i : ℕ) → a < PARTS → i < PARTS → (a ≡ i → ⊥) → bit_at (does (And (all_but a)) k (Open ENGAGED) w q (Open ENGAGED)) i ≡ bit_at (w q (Open ENGAGED)) i
and_bits w a k q i la li n = by (eqb k q) refl where
  by : (b : Bool) → eqb k q ≡ b → bit_at (cond b (bit_and (w k (Open ENGAGED)) (all_but a)) (w q (Open ENGAGED))) i ≡ bit_at (w q (Open ENGAGED)) i
  by false e = refl
  by true e = and_else (w k (Open ENGAGED)) a i la li n ∙ ap (λ (x : ℕ). bit_at (w x (Open ENGAGED)) i) (eqb-true k q e)

pub bits_kept : (su : ScenarioPart) (st : State) (r : Rule) (w : Words) (q i : ℕ) → su.part < PARTS → i < PARTS → (su.part ≡ i → ⊥) → bit_at (does_rule su st r w q (Open ENGAGED)) i ≡ bit_at (w q (Open ENGAGED)) i
bits_kept su st (Link k c (Ring ReadGet)) w q i a b n = refl
bits_kept su st (Link k c (Ring (WriteEntryWord f))) w q i a b n = refl
bits_kept su st (Link k c (Ring AcceptMessage)) w q i a b n = refl
bits_kept su st (Link k c (Pull ReadCounters)) w q i a b n = refl
bits_kept su st (Link k c (Pull ReadEntry)) w q i a b n = refl
bits_kept su st (Link k c Acknowledge) w q i a b n = refl
bits_kept su st (Link k c (SetFlag j)) w q i a b n = refl
bits_kept su st (Link k c ZeroGet) w q i a b n = refl
bits_kept su st (Link k c ZeroPut) w q i a b n = refl
bits_kept su st (Link k c (StoreArgument x)) w q i a b n = refl
bits_kept su st (Link k c (ReadArgument x)) w q i a b n = refl
bits_kept su st (ForPeer k AskActivation) w q i a b n = refl
bits_kept su st (ForPeer k TakeFlags) w q i a b n = refl
bits_kept su st (ForPeer k CloseArea) w q i a b n = refl
bits_kept su st (ForPeer k ZeroMagic) w q i a b n = refl
bits_kept su st (ForPeer k ClearOldBit) w q i a b n = and_bits w su.part k q i a b n
bits_kept su st (ForPeer k (Prepare SessionWord)) w q i a b n = refl
bits_kept su st (ForPeer k (Prepare EchoWord)) w q i a b n = refl
bits_kept su st (ForPeer k (Prepare (PlaceWord x))) w q i a b n = refl
bits_kept su st (ForPeer k (Prepare (ArgsWord c f))) w q i a b n = refl
bits_kept su st (ForPeer k (Prepare FlagWord)) w q i a b n = refl
bits_kept su st (ForPeer k (Prepare (CounterWord c f))) w q i a b n = refl
bits_kept su st (ForPeer k OpenArea) w q i a b n = refl
bits_kept su st (ForPeer k SetEngagementBit) w q i a b n = or_bits w su.part k q i n
bits_kept su st (ForPeer k ReadRecord) w q i a b n = refl
bits_kept su st (ForPeer k StoreEcho) w q i a b n = refl
bits_kept su st (ForPeer k StoreSecond) w q i a b n = refl
bits_kept su st (ForPeer k ClearEngagementBit) w q i a b n = and_bits w su.part k q i a b n
bits_kept su st (ForPeer k LookAtPage) w q i a b n = refl
bits_kept su st (ForPeer k CheckBeat) w q i a b n = refl
bits_kept su st (ForPeer k ClearDeactivationBit) w q i a b n = refl
bits_kept su st (ForPeer k TellPartner) w q i a b n = refl
bits_kept su st (Own ReadEngaged) w q i a b n = refl
bits_kept su st (Own TakeDeactivation) w q i a b n = refl
bits_kept su st (Own ReadStamp) w q i a b n = refl
bits_kept su st (Own ZeroMask) w q i a b n = refl
bits_kept su st (Own ZeroOffline) w q i a b n = refl
bits_kept su st (Own WriteStamp) w q i a b n = refl
bits_kept su st (Own StoreMask) w q i a b n = refl
bits_kept su st (Own TakeActivation) w q i a b n = refl
bits_kept su st (Own StoreBeat) w q i a b n = refl
bits_kept su st (Own StoreOffline) w q i a b n = refl

module _ (s : Scenario) (law : IsLawful s) where
  abbrev Here : List Event → ℕ → Turn → Type 0
  Here before p t = Before s (Met s.count) before p t

  here : (before after : List Event) (p : ℕ) (t : Turn) (m : Memory) → ReachedWords s (before ++ Turned p t ∷ after) m → Here before p t
  here =
      before_step s law (Met s.count)
      (λ w σ a x la i may. keeps_act s (λ p l. lawful_part s p law l) w σ a la i x)
      (λ w σ a r la i can. keeps_rule s (λ p l. lawful_part s p law l) w σ a la i r can)
      (λ w σ a r la i can. keeps_failed s (λ p l. lawful_part s p law l) w σ a la i r can)
      (λ w σ a earlier turns la i. keeps_moment s (λ p l. lawful_part s p law l) w σ a la i earlier turns)
      (met_start s law)

  -- partition p and another one right before the step of p
  pair : (before : List Event) (p : ℕ) (t : Turn) → (b : Here before p t) → (q : ℕ) → q < s.count → (p ≡ q → ⊥) → PairAt b.words (at_step s before p t) (part_at s before q) p q
  pair before p t b q l d =
      let σ = part_at s before in
      let x = at_step s before p t in
      let there : at_one σ p x q ≡ σ q = rw (ne_eqb p q d) refl in
      subst (λ (z : Part). PairAt b.words x z p q) there (subst (λ (y : Part). PairAt b.words y (at_one σ p x q) p q) (one_here σ p x) (b.holds.both p q b.low l d))

  bits_answered : (m : Memory) (w : Words) (p : ℕ) (st : State) (r : Rule) (a : Answer) (q bit : ℕ) → p < s.count → q < s.count → bit < PARTS → (p ≡ bit → ⊥) → Agrees s.count m w → Can (part_of s p) st r → bit_at (word_at (after_answer m (op_of (part_of s p) st r) a) q ENGAGED) bit ≡ bit_at (word_at m q ENGAGED) bit
  bits_answered m w p st r Failed q bit l k j d g can = refl
  bits_answered m w p st r (Word v) q bit l k j d g can =
      let su = part_of s p in
      let lawful = lawful_part s p law l in
      let after = agrees s.count m w (row_of su st r).kind (owner su st r) (row_of su st r).place g (owner_low su st r lawful can) (within su st r lawful can) in
      ap (λ (x : ℕ). bit_at x bit) (after.words q (Open ENGAGED) k (omega arith))
      ∙ bits_kept su st r w q bit (omega (arith, l, law.numbers.count.high)) j d
      ∙ ap (λ (x : ℕ). bit_at x bit) (sym (g.words q (Open ENGAGED) k (omega arith)))

  bits_made : (m : Memory) (w : Words) (p : ℕ) (st : State) (o : Option Marked) (q bit : ℕ) → p < s.count → q < s.count → bit < PARTS → (p ≡ bit → ⊥) → Agrees s.count m w → MayMake (part_of s p) st o → bit_at (word_at (after_made m o) q ENGAGED) bit ≡ bit_at (word_at m q ENGAGED) bit
  bits_made m w p st None q bit l k j d g may = refl
  bits_made m w p st (Some x) q bit l k j d g may = subst (λ (op : Op). bit_at (word_at (after_answer m op x.step.answer) q ENGAGED) bit ≡ bit_at (word_at m q ENGAGED) bit) (sym may.op) (bits_answered m w p st may.rule x.step.answer q bit l k j d g may.can)

  pub guarded : (h : List Event) (m : Memory) → ReachedWords s h m → Guarded s h
  guarded h m r = record { touched = touched; engaged = engaged }
    where
      at : (before after : List Event) (p : ℕ) (t : Turn) → h ≡ before ++ Turned p t ∷ after → Here before p t
      at before after p t e = here before after p t m (subst (λ (es : List Event). ReachedWords s es m) e r)

      touched : (before after : List Event) (p : ℕ) (t : Turn) (x : Marked) → h ≡ before ++ Turned p t ∷ after → t.made ≡ Some x → (x.step.op.owner ≡ p → ⊥) → IsOpenTo p (engaged_at s before x.step.op.owner) (region_of (place_of x.step.op.index))
      touched before after p t x e f n =
          let b = at before after p t e in
          let su = part_of s p in
          let st = (at_step s before p t).state in
          let k = subst (MayMake su st) f b.made in
          let d : owner su st k.rule ≡ p → ⊥ = λ y. n (ap (λ (o : Op). o.owner) k.op ∙ y) in
          let lawful = lawful_part s p law b.low in
          let pl = (row_of su st k.rule).place in
          let is : place_of (index_of pl) ≡ pl = place_of-index_of pl (within su st k.rule lawful k.can) in
          let words : engaged_at s before (owner su st k.rule) ≡ b.words (owner su st k.rule) (Open ENGAGED) = b.agrees.words (owner su st k.rule) (Open ENGAGED) (owner_low su st k.rule lawful k.can) (omega arith) in
          let open_to : IsOpenTo p (b.words (owner su st k.rule) (Open ENGAGED)) (region_of pl) = opens su st k.rule b.words k.can d (λ q l o i. (pair before p t b q l o).guest.set i) (λ q l o i. (let y = pair before p t b q l o in y.guest.set (y.own.fit.active i).1)) in
          let P : Op → Type 0 = λ o. IsOpenTo p (engaged_at s before o.owner) (region_of (place_of o.index)) in
          subst P (sym k.op) (subst (λ (v : ℕ). IsOpenTo p v (region_of (place_of (index_of pl)))) (sym words) (subst (λ z. IsOpenTo p (b.words (owner su st k.rule) (Open ENGAGED)) (region_of z)) (sym is) open_to))

      engaged : (before after : List Event) (p : ℕ) (t : Turn) (q bit : ℕ) → h ≡ before ++ Turned p t ∷ after → q < s.count → bit < PARTS → (bit ≡ p → ⊥) → bit_at (engaged_at s (before ++ Turned p t ∷ []) q) bit ≡ bit_at (engaged_at s before q) bit
      engaged before after p t q bit e l k n =
          let b = at before after p t e in
          ap (λ (x : Memory). bit_at (word_at x q ENGAGED) bit) (memory-append (opening s) before (Turned p t ∷ []))
          ∙ bits_made (memory_by (opening s) before) b.words p (at_step s before p t).state t.made q bit b.low l k (λ y. n (sym y)) b.agrees b.made

pub guarded_kept : (s : Scenario) → IsLawful s → (h : List Event) (m : Memory) → ReachedWords s h m → Guarded s h
guarded_kept s law h m r = guarded s law h m r
