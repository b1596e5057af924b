-- The counts of a partner, whatever changes it.
use Rattle.std.proofs.Common.{◌≡◌, ℕ, ◌+◌, ◌≤◌, Bool, true, false, not, ◌&&◌, cond, eqb, List, [], ◌∷◌, ◌++◌, length, set, refl, sym, ◌∙◌, subst, arith, Option, Some, None}
use Rattle.std.specs.Prelude.{is_some}
use Rattle.xp_base.specs.declared.reason.Reason.{Reason}
use Rattle.xp_base.specs.declared.reason.Reason.TheVariants.{OtherGoingDown}
use Rattle.xp_base.specs.declared.step.CopyKind.{CopyKind}
use Rattle.xp_base.specs.declared.step.CopyKind.TheVariants.{Beat}
use Rattle.xp_base.specs.declared.step.CopyMark.{CopyMark}
use Rattle.xp_base.specs.Kinds.{kinds_in}
use Rattle.xp_protocol.specs.declared.contact.PartnerState.TheVariants.{Active}
use Rattle.xp_protocol.specs.declared.rule.AreaWord.TheVariants.{SessionWord, EchoWord, PlaceWord, ArgsWord, FlagWord, CounterWord}
use Rattle.xp_protocol.specs.declared.rule.PeerRule.{PeerRule}
use Rattle.xp_protocol.specs.declared.rule.PeerRule.TheVariants.{AskActivation, TakeFlags, CloseArea, ZeroMagic, ClearOldBit, Prepare, OpenArea, SetEngagementBit, ReadRecord, StoreEcho, StoreSecond, ClearEngagementBit, LookAtPage, CheckBeat, ClearDeactivationBit, TellPartner}
use Rattle.xp_protocol.specs.Effects.{Effect, Note}
use Rattle.xp_protocol.specs.State.{End, Peer, Reading, Watch, Area, cold_peer, new_watch, idle_end, link_at}
use Rattle.xp_protocol.specs.Linking.{link_down, link_finished, link_joined, flags_got, booted_end}
use Rattle.xp_protocol.specs.Peering.{Here, all_links, with_flags, same_peer, is_bad_flags, area_left_for, left_engage, contact_made, contact_of, try_contact, record_read, peer_effect, area_off, freed_engage, peer_read, deactivation_heard, is_left, is_flagged, is_magic, is_wrong, has_shown, with_reason, check_over, watch_read, watch_failed, peer_failed, booted_peer}
use Rattle.xp_protocol.specs.Rules.{peer_numbered}
use Rattle.xp_protocol.proofs.Frames.{idle_at}
use Rattle.xp_protocol.proofs.Slots.{at_each, at_slot}
use Rattle.xp_counts.specs.Counted.{IsEndCounted, IsPeerCounted}
use Rattle.xp_counts.proofs.Ends.{more_end, Raises, idle_counted, takes, goes_down, finishes, joins, boots}

pub more_peer : (a b : ℕ) (p : Peer) → a ≤ b → IsPeerCounted a p → IsPeerCounted b p
more_peer a b p l h = record {
  count = (let k = h.count in omega (arith, k, l));
  cleared = λ turn e. (let k = h.cleared turn e in omega (arith, k, l));
  since = (let k = h.since in omega (arith, k, l));
  ends = λ c. more_end a b (link_at p.links c) l (h.ends c);
}

same_turn : (a b : ℕ) → Some a ≡ Some b → a ≡ b
same_turn a b e = cc

module _ (n : ℕ) where
  abbrev pub On : Peer → Type 0
  On p = IsPeerCounted (n + 1) p

  up : (p : Peer) → IsPeerCounted n p → On p
  up p h = more_peer n (n + 1) p (omega arith) h

  pub cold_counted : (m : ℕ) (area : Area) → IsPeerCounted m (cold_peer area)
  cold_counted m area = record { count = omega arith; cleared = λ turn e. absurd (cc); since = omega arith; ends = λ c. subst (λ (x : End). IsEndCounted m x) (sym (idle_at c)) (idle_counted m) }

  -- each end of a partner is raised
  each_links : (f : ℕ → End → Effect End (List Note)) (p : Peer) → ((c : ℕ) (e : End) → Raises n e (f c e)) → IsPeerCounted n p → On (all_links f p).local
  each_links f p k h = let u = up p h in record {
    count = u.count;
    cleared = u.cleared;
    since = u.since;
    ends = λ c. at_each (λ (x : End). IsEndCounted (n + 1) x) (λ i e. (f i e).local) p.links c idle_end (k c (link_at p.links c) (h.ends c)) (λ l. idle_counted (n + 1));
  }

  either : (b : Bool) (f g : Effect Peer (ℕ → List Note)) → On f.local → On g.local → On (cond b f g).local
  either true f g x y = x
  either false f g x y = y

  -- a partner is watched from this turn on
  watched : (p : Peer) (x : Watch) → x.since ≤ n + 1 → On p → On (record p { watch = x })
  watched p x l h = record { count = h.count; cleared = h.cleared; since = l; ends = h.ends }

  meets : (turn stamp : ℕ) (z : Peer) → turn ≤ n + 1 → IsPeerCounted n z → On (try_contact turn stamp z).local
  meets turn stamp z l h = either (z.engage.second && (z.engage.shown && not (is_some z.contact))) (contact_made turn stamp z) (same_peer z)
      (let met : Peer = record z { contact = Some (contact_of stamp z.engage); engage = record z.engage { state = Active } } in
      let f : ℕ → End → Effect End (List Note) = λ c e. link_joined z.both_new (contact_of stamp z.engage) e in
      watched (all_links f met).local (new_watch turn) l (each_links f met (λ c e. joins n z.both_new (contact_of stamp z.engage) e) (record { count = h.count; cleared = h.cleared; since = h.since; ends = h.ends }))) (up z h)

  -- only the engagement changes, and no count of it
  calm : (p x : Peer) → x.engage.count ≡ p.engage.count → x.engage.cleared_at ≡ p.engage.cleared_at → x.watch.since ≡ p.watch.since → x.links ≡ p.links → IsPeerCounted n p → On x
  calm p x a b w c h = let u = up p h in record {
    count = subst (λ (k : ℕ). k ≤ n + 1) (sym a) u.count;
    cleared = λ turn e. u.cleared turn (sym b ∙ e);
    since = subst (λ (k : ℕ). k ≤ n + 1) (sym w) u.since;
    ends = λ d. subst (λ (ls : List End). IsEndCounted (n + 1) (link_at ls d)) (sym c) (u.ends d);
  }

  still : (p x : Peer) → x.engage.count ≡ p.engage.count → x.engage.cleared_at ≡ p.engage.cleared_at → x.watch.since ≡ p.watch.since → x.links ≡ p.links → IsPeerCounted n p → IsPeerCounted n x
  still p x a b w c h = record {
    count = subst (λ (k : ℕ). k ≤ n) (sym a) h.count;
    cleared = λ turn e. h.cleared turn (sym b ∙ e);
    since = subst (λ (k : ℕ). k ≤ n) (sym w) h.since;
    ends = λ d. subst (λ (ls : List End). IsEndCounted n (link_at ls d)) (sym c) (h.ends d);
  }

  reads : (y : Here) (p : Peer) (w : ℕ) → y.turn ≤ n + 1 → IsPeerCounted n p → (o : Option Reading) → On (record_read y p o w).local
  reads y p w l h None = either (eqb w 0) _ _ (calm p _ refl refl refl refl h) (either (is_magic w) _ _ (calm p _ refl refl refl refl h) (up p h))
  reads y p w l h (Some r) =
      either (eqb r.done 1) _ _ (calm p _ refl refl refl refl h) (either (eqb r.done 2) _ _ (calm p _ refl refl refl refl h) (either (eqb r.done 7) _ _
      (either (has_shown y.stamp p.engage r) _ _ (meets y.turn y.stamp (record p { engage = record p.engage { shown = true; reading = None } }) l (still p _ refl refl refl refl h)) (calm p _ refl refl refl refl h))
      (either (is_wrong y.part r.done w) _ _ (calm p _ refl refl refl refl h) (calm p _ refl refl refl refl h))))

  left : (o : Option Reason) (p : Peer) → IsPeerCounted n p → On (area_left_for o p).local
  left None p h = up p h
  left (Some reason) p h = each_links (λ c e. link_down reason e) (record p { contact = None; engage = left_engage p.engage; watch = record p.watch { words = [] } }) (λ c e k. goes_down (n + 1) reason e (more_end n (n + 1) e (omega arith) k)) (still p _ refl refl refl refl h)

  pub peered : (y : Here) (p : Peer) (m : PeerRule) (w : ℕ) → y.turn ≤ n + 1 → IsPeerCounted n p → On (peer_effect y p m w).local
  peered y p AskActivation w l h = calm p _ refl refl refl refl h
  peered y p TakeFlags w l h = either (is_bad_flags w) _ _ (up p h) (each_links (λ c e. flags_got (kinds_in w c) e) (with_flags w p) (λ c e k. takes (n + 1) (kinds_in w c) e (more_end n (n + 1) e (omega arith) k)) (still p _ refl refl refl refl h))
  peered y p CloseArea w l h = left p.engage.reason p h
  peered y p ZeroMagic w l h = calm p _ refl refl refl refl h
  peered y p ClearOldBit w l h = calm p _ refl refl refl refl h
  peered y p (Prepare SessionWord) w l h = calm p _ refl refl refl refl h
  peered y p (Prepare EchoWord) w l h = calm p _ refl refl refl refl h
  peered y p (Prepare (PlaceWord x)) w l h = calm p _ refl refl refl refl h
  peered y p (Prepare (ArgsWord c f)) w l h = calm p _ refl refl refl refl h
  peered y p (Prepare FlagWord) w l h = calm p _ refl refl refl refl h
  peered y p (Prepare (CounterWord c f)) w l h = calm p _ refl refl refl refl h
  peered y p OpenArea w l h = let u = up p h in let k = h.count in record { count = omega (arith, k); cleared = u.cleared; since = u.since; ends = u.ends }
  peered y p SetEngagementBit w l h = calm p _ refl refl refl refl h
  peered y p ReadRecord w l h = reads y p w l h p.engage.reading
  peered y p StoreEcho w l h = calm p _ refl refl refl refl h
  peered y p StoreSecond w l h = meets y.turn y.stamp (record p { engage = record p.engage { second = true } }) l (still p _ refl refl refl refl h)
  peered y p ClearEngagementBit w l h = let u = up p h in record { count = u.count; cleared = λ turn e. (let k = same_turn y.turn turn e in omega (arith, k, l)); since = u.since; ends = u.ends }
  peered y p LookAtPage w l h = either (eqb (length (p.paging ++ w ∷ [])) 5) _ _ (calm p _ refl refl refl refl h) (calm p _ refl refl refl refl h)
  peered y p CheckBeat w l h = watched p (watch_read y.part y.turn words p.watch) (by (eqb (length words) 3)) (up p h) where
    words : List ℕ
    words = p.watch.words ++ w ∷ []

    by : (b : Bool) → (cond b (check_over y.part y.turn words p.watch) (record p.watch { words = words })).since ≤ n + 1
    by true = l
    by false = (up p h).since
  peered y p ClearDeactivationBit w l h = calm p _ refl refl refl refl h
  peered y p TellPartner w l h = calm p _ refl refl refl refl h

  pub numbered : (mark : Option CopyMark) (p : Peer) → IsPeerCounted n p → IsPeerCounted n (peer_numbered mark p)
  numbered None p h = h
  numbered (Some mark) p h = still p _ refl refl refl refl h

  pub failed : (turn : ℕ) (mark : Option CopyMark) (p : Peer) → turn ≤ n + 1 → IsPeerCounted n p → On (peer_failed turn mark p)
  failed turn None p l h = up p h
  failed turn (Some mark) p l h = let u = up p h in record { count = u.count; cleared = u.cleared; since = by mark.kind; ends = u.ends } where
    by : (kind : CopyKind) → (watch_failed turn kind p.watch).since ≤ n + 1
    by Beat = l
    by kind = (up p h).since

  pub reasoned : (reason : Option Reason) (m : ℕ) (p : Peer) → IsPeerCounted m p → IsPeerCounted m (with_reason reason p)
  reasoned reason m p h = record { count = h.count; cleared = h.cleared; since = h.since; ends = h.ends }

  pub freed : (w q : ℕ) (p : Peer) → IsPeerCounted n p → On (peer_read w q p).local
  freed w q p h = either (is_left p.engage && not (is_flagged w q)) (area_off p) (same_peer p) (each_links (λ c e. link_finished e) (record p { contact = None; engage = freed_engage p.engage }) (λ c e. finishes n e) (still p _ refl refl refl refl h)) (up p h)

  pub told : (w q : ℕ) (p : Peer) → IsPeerCounted n p → On (deactivation_heard w q p).local
  told w q p h = by (is_some p.engage.echo && is_flagged w q) where
    by : (b : Bool) → On (cond b (with_reason (Some (OtherGoingDown w)) p) p)
    by true = calm p _ refl refl refl refl h
    by false = up p h

-- one end is replaced
pub set_counted : (m : ℕ) (p x : Peer) (c : ℕ) (e : End) → x.engage.count ≡ p.engage.count → x.engage.cleared_at ≡ p.engage.cleared_at → x.watch.since ≡ p.watch.since → x.links ≡ set p.links c e → IsEndCounted m e → IsPeerCounted m p → IsPeerCounted m x
set_counted m p x c e a b w s new h = record {
  count = subst (λ (k : ℕ). k ≤ m) (sym a) h.count;
  cleared = λ turn f. h.cleared turn (sym b ∙ f);
  since = subst (λ (k : ℕ). k ≤ m) (sym w) h.since;
  ends = λ d. subst (λ (ls : List End). IsEndCounted m (link_at ls d)) (sym s) (at_slot (λ (y : End). IsEndCounted m y) p.links c d e idle_end (λ f. new) (h.ends d));
}

pub booted : (n : ℕ) (p : Peer) → IsPeerCounted n (booted_peer p)
booted n p = record {
  count = omega arith;
  cleared = λ turn e. absurd (cc);
  since = omega arith;
  ends = λ c. at_each (λ (x : End). IsEndCounted n x) (λ i e. booted_end e) p.links c idle_end (boots n (link_at p.links c)) (λ l. idle_counted n);
}
