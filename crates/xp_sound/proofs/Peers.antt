-- A partner stays consistent, with all its ends, whatever changes it.
use Rattle.std.proofs.Common.{◌≡◌, ℕ, ◌+◌, ◌<◌, Bool, true, false, not, ◌&&◌, cond, nat_eq, List, [], ◌∷◌, ◌++◌, length, length-append, set, refl, sym, subst, arith, Option, Some, None}
use Rattle.std.specs.Prelude.{is_some}
use Rattle.std.proofs.lemmas.Bool.Decides.{nat_tests}
use Rattle.xp_base.specs.declared.layout.TheConstants.{RECORD_WORDS}
use Rattle.xp_base.specs.declared.reason.Reason.{Reason}
use Rattle.xp_base.specs.declared.reason.Reason.TheVariants.{OtherGoingDown}
use Rattle.xp_base.specs.declared.step.CopyKind.{CopyKind}
use Rattle.xp_base.specs.declared.step.CopyKind.TheVariants.{Page as PageCopy, Beat as BeatCopy, Record as RecordCopy}
use Rattle.xp_base.specs.declared.step.CopyMark.{CopyMark}
use Rattle.xp_base.specs.Kinds.{kinds_in}
use Rattle.xp_protocol.specs.declared.contact.PartnerState.TheVariants.{Active}
use Rattle.xp_protocol.specs.declared.rule.AreaWord.TheVariants.{SessionWord, EchoWord, PlaceWord, ArgsWord, FlagWord, CounterWord}
use Rattle.xp_protocol.specs.declared.rule.PeerRule.{PeerRule}
use Rattle.xp_protocol.specs.declared.rule.PeerRule.TheVariants.{AskActivation, TakeFlags, CloseArea, ZeroMagic, ClearOldBit, Prepare, OpenArea, SetEngagementBit, ReadRecord, StoreEcho, StoreSecond, ClearEngagementBit, LookAtPage, CheckBeat, ClearDeactivationBit, TellPartner}
use Rattle.xp_protocol.specs.Effects.{Effect, Note}
use Rattle.xp_protocol.specs.State.{End, Peer, Reading, Watch, Area, new_watch, cold_peer, idle_end, link_at}
use Rattle.xp_protocol.specs.Linking.{link_down, link_finished, link_joined, flags_got, booted_end}
use Rattle.xp_protocol.specs.Peering.{Here, all_links, with_flags, same_peer, is_bad_flags, area_left_for, left_engage, contact_made, contact_of, try_contact, CHECK_WORDS, beat_read, check_over, watch_read, watch_failed, read_place, record_read, last_read, place_read, page_read, judged, both_new_by, look_reason, peer_effect, area_off, freed_engage, peer_read, deactivation_heard, is_left, is_flagged, is_magic, is_wrong, has_shown, with_reason, reading_failed, paging_failed, peer_failed, booted_peer}
use Rattle.xp_protocol.specs.Rules.{peer_numbered}
use Rattle.xp_protocol.proofs.Frames.{idle_at}
use Rattle.xp_protocol.proofs.Slots.{at_each, at_slot}
use Rattle.xp_sound.specs.Consistent.{IsConsistentEnd, IsConsistentWith, IsConsistentPeer}
use Rattle.xp_sound.proofs.Ends.{Keeps, idle_consistent, takes, goes_down, finishes, joins, boots}

pub cold_consistent : (area : Area) → IsConsistentPeer (cold_peer area)
cold_consistent area = record { page = omega arith; check = omega arith; words = omega arith; ends = λ c. subst IsConsistentEnd (sym (idle_at c)) idle_consistent }

-- each end of a partner changes
each_links : (f : ℕ → End → Effect End (List Note)) (p : Peer) → ((c : ℕ) (e : End) → Keeps e (f c e)) → IsConsistentPeer p → IsConsistentPeer (all_links f p).local
each_links f p k h = record {
  page = h.page;
  check = h.check;
  words = h.words;
  ends = λ c. at_each IsConsistentEnd (λ i e. (f i e).local) p.links c idle_end (k c (link_at p.links c) (h.ends c)) (λ l. idle_consistent);
}

either : (b : Bool) (f g : Effect Peer (ℕ → List Note)) → IsConsistentPeer f.local → IsConsistentPeer g.local → IsConsistentPeer (cond b f g).local
either true f g x y = x
either false f g x y = y

-- another watch, whose check has loads left
with_watch : (p : Peer) (x : Watch) → length x.words < CHECK_WORDS → IsConsistentPeer p → IsConsistentWith p.paging x.words p.engage.reading p.links
with_watch p x l h = record { page = h.page; check = l; words = h.words; ends = h.ends }

meets : (turn stamp : ℕ) (p : Peer) → IsConsistentPeer p → IsConsistentPeer (try_contact turn stamp p).local
meets turn stamp p h = either (p.engage.second && (p.engage.shown && not (is_some p.contact))) (contact_made turn stamp p) (same_peer p)
    (each_links (λ c e. link_joined p.both_new (contact_of stamp p.engage) e) (record p { contact = Some (contact_of stamp p.engage); engage = record p.engage { state = Active }; watch = new_watch turn }) (λ c e. joins p.both_new (contact_of stamp p.engage) e) (with_watch p (new_watch turn) (omega arith) h)) h

-- a word of the record is loaded
with_reading : (p : Peer) (o : Option Reading) → read_place o < RECORD_WORDS → IsConsistentPeer p → IsConsistentWith p.paging p.watch.words o p.links
with_reading p o l h = record { page = h.page; check = h.check; words = l; ends = h.ends }

next_word : (done : ℕ) → nat_eq done 7 ≡ false → done < RECORD_WORDS → done + 1 < RECORD_WORDS
next_word done e l = grind (arith, nat_tests)

reads : (y : Here) (p : Peer) (w : ℕ) → IsConsistentPeer p → (o : Option Reading) → read_place o < RECORD_WORDS → IsConsistentPeer (record_read y p o w).local
reads y p w h None l = either (nat_eq w 0) _ _ h (either (is_magic w) _ _ (with_reading p _ (omega arith) h) h)
reads y p w h (Some r) l =
    either (nat_eq r.done 1) _ _ (with_reading p _ (omega arith) h) (either (nat_eq r.done 2) _ _ (with_reading p _ (omega arith) h) (by (nat_eq r.done 7) refl)) where
      by : (b : Bool) → nat_eq r.done 7 ≡ b → IsConsistentPeer (cond b (last_read y.turn y.stamp p r) (place_read y.part p r w)).local
      by true e = either (has_shown y.stamp p.engage r) _ _ (meets y.turn y.stamp (record p { engage = record p.engage { shown = true; reading = None } }) (with_reading p None (omega arith) h)) (with_reading p None (omega arith) h)
      by false e = either (is_wrong y.part r.done w) _ _ (with_reading p None (omega arith) h) (with_reading p _ (next_word r.done e l) h)

-- a word of the page is loaded
with_paging : (p : Peer) (words : List ℕ) → length words < 5 → IsConsistentPeer p → IsConsistentWith words p.watch.words p.engage.reading p.links
with_paging p words l h = record { page = l; check = h.check; words = h.words; ends = h.ends }

pages : (own w : ℕ) (p : Peer) → IsConsistentPeer p → IsConsistentPeer (page_read own (p.paging ++ w ∷ []) w p).local
pages own w p h = by (nat_eq (length words) 5) test where
  words : List ℕ
  words = p.paging ++ w ∷ []

  few : (n m : ℕ) → n < 5 → m ≡ n + 1 → nat_eq m 5 ≡ false → m < 5
  few n m l e f = grind (arith, nat_tests)

  test : nat_eq (length words) 5 ≡ false → length words < 5
  test e = few (length p.paging) (length words) h.page (length-append p.paging (w ∷ [])) e

  whole : Effect Peer (ℕ → List Note)
  whole = record { local = record p { look = judged words; paging = []; both_new = both_new_by own (judged words) p.both_new }; reason = look_reason p.engage.echo (judged words) w; notes = λ c. [] }

  part : Effect Peer (ℕ → List Note)
  part = record { local = record p { paging = words }; reason = None; notes = λ c. [] }

  by : (b : Bool) → (b ≡ false → length words < 5) → IsConsistentPeer (cond b whole part).local
  by true t = with_paging p [] (omega arith) h
  by false t = with_paging p words (t refl) h

-- a word of the heartbeat is loaded
checks : (y : Here) (w : ℕ) (p : Peer) → IsConsistentPeer p → IsConsistentPeer (beat_read y (p.watch.words ++ w ∷ []) p).local
checks y w p h = with_watch p (watch_read y.part y.turn words p.watch) (by (nat_eq (length words) CHECK_WORDS) test) h where
  words : List ℕ
  words = p.watch.words ++ w ∷ []

  few : (n m : ℕ) → n < 3 → m ≡ n + 1 → nat_eq m 3 ≡ false → m < 3
  few n m l e f = grind (arith, nat_tests)

  test : nat_eq (length words) CHECK_WORDS ≡ false → length words < CHECK_WORDS
  test e = few (length p.watch.words) (length words) h.check (length-append p.watch.words (w ∷ [])) e

  by : (b : Bool) → (b ≡ false → length words < CHECK_WORDS) → length (cond b (check_over y.part y.turn words p.watch) (record p.watch { words = words })).words < CHECK_WORDS
  by true t = omega arith
  by false t = t refl

left : (o : Option Reason) (p : Peer) → IsConsistentPeer p → IsConsistentPeer (area_left_for o p).local
left None p h = h
left (Some reason) p h = each_links (λ c e. link_down reason e) (record p { contact = None; engage = left_engage p.engage; watch = record p.watch { words = [] } }) (λ c e. goes_down reason e) (record { page = h.page; check = omega arith; words = omega arith; ends = h.ends })

pub peered : (y : Here) (p : Peer) (m : PeerRule) (w : ℕ) → IsConsistentPeer p → IsConsistentPeer (peer_effect y p m w).local
peered y p AskActivation w h = h
peered y p TakeFlags w h = either (is_bad_flags w) _ _ h (each_links (λ c e. flags_got (kinds_in w c) e) (with_flags w p) (λ c e. takes (kinds_in w c) e) h)
peered y p CloseArea w h = left p.engage.reason p h
peered y p ZeroMagic w h = h
peered y p ClearOldBit w h = h
peered y p (Prepare SessionWord) w h = h
peered y p (Prepare EchoWord) w h = h
peered y p (Prepare (PlaceWord x)) w h = h
peered y p (Prepare (ArgsWord c f)) w h = h
peered y p (Prepare FlagWord) w h = h
peered y p (Prepare (CounterWord c f)) w h = h
peered y p OpenArea w h = h
peered y p SetEngagementBit w h = with_reading p None (omega arith) h
peered y p ReadRecord w h = reads y p w h p.engage.reading h.words
peered y p StoreEcho w h = h
peered y p StoreSecond w h = meets y.turn y.stamp (record p { engage = record p.engage { second = true } }) h
peered y p ClearEngagementBit w h = h
peered y p LookAtPage w h = pages y.version w p h
peered y p CheckBeat w h = checks y w p h
peered y p ClearDeactivationBit w h = h
peered y p TellPartner w h = h

pub numbered : (mark : Option CopyMark) (p : Peer) → IsConsistentPeer p → IsConsistentPeer (peer_numbered mark p)
numbered None p h = h
numbered (Some mark) p h = h

-- a load failed
page_failed : (kind : CopyKind) (words : List ℕ) → length words < 5 → length (paging_failed kind words) < 5
page_failed PageCopy words l = omega arith
page_failed kind words l = l

record_failed : (kind : CopyKind) (o : Option Reading) → read_place o < RECORD_WORDS → read_place (reading_failed kind o) < RECORD_WORDS
record_failed RecordCopy o l = omega arith
record_failed kind o l = l

beat_failed : (turn : ℕ) (kind : CopyKind) (x : Watch) → length x.words < CHECK_WORDS → length (watch_failed turn kind x).words < CHECK_WORDS
beat_failed turn BeatCopy x l = omega arith
beat_failed turn kind x l = l

pub failed : (turn : ℕ) (mark : Option CopyMark) (p : Peer) → IsConsistentPeer p → IsConsistentPeer (peer_failed turn mark p)
failed turn None p h = h
failed turn (Some mark) p h = record { page = page_failed mark.kind p.paging h.page; check = beat_failed turn mark.kind p.watch h.check; words = record_failed mark.kind p.engage.reading h.words; ends = h.ends }

pub freed : (w q : ℕ) (p : Peer) → IsConsistentPeer p → IsConsistentPeer (peer_read w q p).local
freed w q p h = either (is_left p.engage && not (is_flagged w q)) (area_off p) (same_peer p) (each_links (λ c e. link_finished e) (record p { contact = None; engage = freed_engage p.engage }) (λ c e. finishes e) h) h

pub told : (w q : ℕ) (p : Peer) → IsConsistentPeer p → IsConsistentPeer (deactivation_heard w q p).local
told w q p h = by (is_some p.engage.echo && is_flagged w q) where
  by : (b : Bool) → IsConsistentPeer (cond b (with_reason (Some (OtherGoingDown w)) p) p)
  by true = h
  by false = h

-- one end is replaced
pub end_set : (p : Peer) (c : ℕ) (e : End) → IsConsistentEnd e → IsConsistentPeer p → IsConsistentWith p.paging p.watch.words p.engage.reading (set p.links c e)
end_set p c e new h = record { page = h.page; check = h.check; words = h.words; ends = λ d. at_slot IsConsistentEnd p.links c d e idle_end (λ f. new) (h.ends d) }

pub booted : (p : Peer) → IsConsistentPeer p → IsConsistentPeer (booted_peer p)
booted p h = record {
  page = omega arith;
  check = omega arith;
  words = omega arith;
  ends = λ c. at_each IsConsistentEnd (λ i e. booted_end e) p.links c idle_end (boots (link_at p.links c) (h.ends c)) (λ l. idle_consistent);
}
