-- What a step for a partner makes of all that is known of it follows from what it makes of it with no
-- end of a channel.
use Rattle.std.proofs.Common.{◌≡◌, ℕ, Bool, true, false, List, [], ◌∷◌, ◌++◌, length, Option, Some, None, refl, ap, sym, ◌∙◌, subst, arith}
use Rattle.std.specs.Prelude.{is_some, ◌||◌, if◌then◌else◌, nat_eq, nat_lt, slice_index}
use Rattle.std.proofs.lemmas.Bool.{eqb-true}
use Rattle.std.proofs.lemmas.List.{length-append}
use Rattle.xp_base.specs.declared.reason.Reason.{Reason}
use Rattle.xp_base.specs.declared.step.Answer.TheVariants.{Word, Failed}
use Rattle.xp_base.specs.declared.reason.Reason.TheVariants.{CopyError}
use Rattle.xp_base.specs.declared.session.Session.{Session}
use Rattle.xp_base.specs.declared.step.CopyKind.{CopyKind}
use Rattle.xp_base.specs.declared.step.CopyKind.TheVariants.{Counters, Get, Entries, Page, Beat, Record as RecordCopies, Args, Buffer}
use Rattle.xp_base.specs.declared.step.CopyMark.{CopyMark}
use Rattle.xp_protocol.specs.declared.rule.PeerRule.{PeerRule}
use Rattle.xp_protocol.specs.declared.rule.PeerRule.TheVariants.{AskActivation, TakeFlags, CloseArea, ZeroMagic, ClearOldBit, Prepare, OpenArea, SetEngagementBit, ReadRecord, StoreEcho, StoreSecond, ClearEngagementBit, LookAtPage, CheckBeat, ClearDeactivationBit, TellPartner}
use Rattle.xp_protocol.specs.Effects.{Effect, Note, first_reason}
use Rattle.xp_protocol.specs.State.{End, Peer, PeerGoing, Contact, Engage, Reading, Watch, no_numbers, each}
use Rattle.xp_protocol.specs.Linking.{link_joined, link_down}
use Rattle.xp_protocol.specs.Peering.{with_reason, is_ready, judged, is_absent, look_reason, both_new_by, try_contact, magic_read, place_read, last_read, record_read, is_magic, is_wrong, has_shown, area_left, area_left_for}
use Rattle.xp_channel.specs.Channel.{Channel}
use Rattle.xp_engage.specs.Partner.{Partner as Standing, alone, here, seen_in, effect_on, stepped, step_reason}
use Rattle.xp_protocol.specs.declared.contact.Look.{Look}
use Rattle.xp_protocol.specs.declared.contact.Look.TheVariants.{Unseen, Good, Absent, BadVersion}
use Rattle.xp_discover.specs.declared.look.LookAnswer.{LookAnswer}
use Rattle.xp_discover.specs.Looking.{look_answer, look_answered}
use Rattle.xp_engage.specs.Learning.{faulted, shown_by, stamp_shown, looked_at, sessions_of}
use Rattle.xp_channel.specs.Opening.{contact_of}
use Rattle.xp_partner.specs.Page.{words_after, shown_after}
use Rattle.xp_engage.proofs.Stepping.{links_none, down_none, faulted_none as without_reason}
use Rattle.xp_partner.specs.Partner.{Partner, peer_seen, each_kept, rooms_of}
use Rattle.xp_partner.specs.Making.{known_as, after_effect, peer_effect_on, peer_made, marked, met_by, met_if, is_alone}
use Rattle.xp_partner.proofs.Four.{four_of, same_rooms, rooms_put}

-- without a reason nothing changes
reason_kept : (o : Option Reason) (b : Bool) → first_reason o (if b then None else None) ≡ o
reason_kept None true = refl
reason_kept None false = refl
reason_kept (Some r) b = refl

pub with_none : (p : Peer) → with_reason None p ≡ p
with_none p = ap (λ (o : Option Reason). record p { engage = record p.engage { reason = o } }) (reason_kept p.engage.reason (is_ready p.engage.area))

pub own_rooms : (x y : Partner) → x ≡ y → x ≡ rooms_of y x
own_rooms x y h = h ∙ ap (λ (xs : List Channel). record y { channels = xs }) (sym (same_rooms y.channels)) ∙ ap (λ (z : Partner). rooms_of y z) (sym h)

-- all that is known, with what became of the partner alone: its ends join where it has come into
-- contact
abbrev joined_links : Bool → Option Contact → Option Contact → List End → List End
joined_links new None (Some m) links = each (λ c e. (link_joined new m e).local) 0 links
joined_links new before contact links = links

abbrev lifted : Partner → Peer → Peer
lifted x p = record (peer_seen x) {
  wanted = p.wanted;
  look = p.look;
  both_new = p.both_new;
  flags_seen = p.flags_seen;
  engage = p.engage;
  contact = p.contact;
  watch = p.watch;
  links = joined_links p.both_new x.standing.contact p.contact (peer_seen x).links;
}

record Alike (x : Partner) (f g : Effect Peer (ℕ → List Note)) : Type 0 where
  local : g.local ≡ lifted x f.local
  reason : g.reason ≡ f.reason
  notes : g.notes ≡ (λ c. [])

alike_if : (x : Partner) (b : Bool) (f g h k : Effect Peer (ℕ → List Note)) → Alike x f g → Alike x h k → Alike x (if b then f else h) (if b then g else k)
alike_if x true f g h k a b = a
alike_if x false f g h k a b = b

abbrev just_peer : Option Reason → Peer → Effect Peer (ℕ → List Note)
just_peer r p = record { local = p; reason = r; notes = λ c. [] }

joined_same : (new : Bool) (c : Option Contact) (links : List End) → joined_links new c c links ≡ links
joined_same new None links = refl
joined_same new (Some m) links = refl

-- a copy has the number 0 where there is no end of a channel
abbrev alone_with : PeerGoing → Standing → Peer
alone_with n x = record (alone x) { numbers = n }

-- where the engagement alone changes
same_alike : (x : Partner) (n : PeerGoing) (e : Engage) (r : Option Reason) → Alike x (just_peer r (record (alone_with n x.standing) { engage = e })) (just_peer r (record (peer_seen x) { engage = e }))
same_alike x n e r = record {
  local = ap (λ (links : List End). record (peer_seen x) { engage = e; links = links }) (sym (joined_same x.standing.both_new x.standing.contact (peer_seen x).links));
  reason = refl;
  notes = refl;
}

-- where the watch alone changes
watch_alike : (x : Partner) (n : PeerGoing) (v : Watch) (r : Option Reason) → Alike x (just_peer r (record (alone_with n x.standing) { watch = v })) (just_peer r (record (peer_seen x) { watch = v }))
watch_alike x n v r = record {
  local = ap (λ (links : List End). record (peer_seen x) { watch = v; links = links }) (sym (joined_same x.standing.both_new x.standing.contact (peer_seen x).links));
  reason = refl;
  notes = refl;
}

try_alike : (turn : ℕ) (x : Partner) (n : PeerGoing) (e : Engage) → Alike x (try_contact turn x.standing.stamp (record (alone_with n x.standing) { engage = e })) (try_contact turn x.standing.stamp (record (peer_seen x) { engage = e }))
try_alike turn x n e = by x.standing.contact e.second e.shown where
  by : (c : Option Contact) (s h : Bool) → Alike (record x { standing = record x.standing { contact = c } }) (try_contact turn x.standing.stamp (record (alone_with n (record x.standing { contact = c })) { engage = record e { second = s; shown = h } })) (try_contact turn x.standing.stamp (record (peer_seen (record x { standing = record x.standing { contact = c } })) { engage = record e { second = s; shown = h } }))
  by None true true = record { local = refl; reason = refl; notes = refl }
  by None true false = record { local = refl; reason = refl; notes = refl }
  by None false h = record { local = refl; reason = refl; notes = refl }
  by (Some m) true true = record { local = refl; reason = refl; notes = refl }
  by (Some m) true false = record { local = refl; reason = refl; notes = refl }
  by (Some m) false h = record { local = refl; reason = refl; notes = refl }

magic_alike : (x : Partner) (n : PeerGoing) (w : ℕ) → Alike x (magic_read (alone_with n x.standing) w) (magic_read (peer_seen x) w)
magic_alike x n w =
    alike_if x (nat_eq w 0) _ _ _ _ (same_alike x n _ _)
    (alike_if x (is_magic w) _ _ _ _ (same_alike x n _ _) (same_alike x n x.standing.engage _))

last_alike : (turn : ℕ) (x : Partner) (n : PeerGoing) (r : Reading) → Alike x (last_read turn x.standing.stamp (alone_with n x.standing) r) (last_read turn x.standing.stamp (peer_seen x) r)
last_alike turn x n r =
    alike_if x (has_shown x.standing.stamp x.standing.engage r) _ _ _ _ (try_alike turn x n (record x.standing.engage { shown = true; reading = None })) (same_alike x n _ _)

place_alike : (x : Partner) (n : PeerGoing) (r : Reading) (w : ℕ) → Alike x (place_read x.standing.own (alone_with n x.standing) r w) (place_read x.standing.own (peer_seen x) r w)
place_alike x n r w = alike_if x (is_wrong x.standing.own r.done w) _ _ _ _ (same_alike x n _ _) (same_alike x n _ _)

read_alike : (turn : ℕ) (x : Partner) (n : PeerGoing) (o : Option Reading) (w : ℕ) → Alike x (record_read (here turn x.standing) (alone_with n x.standing) o w) (record_read (here turn x.standing) (peer_seen x) o w)
read_alike turn x n None w = magic_alike x n w
read_alike turn x n (Some r) w =
    alike_if x (nat_eq r.done 1) _ _ _ _ (same_alike x n _ _)
    (alike_if x (nat_eq r.done 2) _ _ _ _ (same_alike x n _ _)
    (alike_if x (nat_eq r.done 7) _ _ _ _ (last_alike turn x n r) (place_alike x n r w)))

alone_alike : (turn w : ℕ) (m : PeerRule) (x : Partner) → is_alone m ≡ true → Alike x (effect_on turn x.standing m (Word w)) (peer_effect_on turn None m (Word w) x)
alone_alike turn w AskActivation x h = same_alike x no_numbers _ _
alone_alike turn w TakeFlags x h = absurd (cc)
alone_alike turn w CloseArea x h = absurd (cc)
alone_alike turn w ZeroMagic x h = same_alike x no_numbers _ _
alone_alike turn w ClearOldBit x h = same_alike x no_numbers _ _
alone_alike turn w (Prepare y) x h = same_alike x no_numbers _ _
alone_alike turn w OpenArea x h = same_alike x no_numbers _ _
alone_alike turn w SetEngagementBit x h = same_alike x no_numbers _ _
alone_alike turn w ReadRecord x h = read_alike turn x no_numbers x.standing.engage.reading w
alone_alike turn w StoreEcho x h = same_alike x no_numbers _ _
alone_alike turn w StoreSecond x h = try_alike turn x no_numbers (record x.standing.engage { second = true })
alone_alike turn w ClearEngagementBit x h = same_alike x no_numbers _ _
alone_alike turn w LookAtPage x h = absurd (cc)
alone_alike turn w CheckBeat x h = watch_alike x no_numbers _ _
alone_alike turn w ClearDeactivationBit x h = same_alike x no_numbers _ _
alone_alike turn w TellPartner x h = same_alike x no_numbers _ _

-- a reason goes to the engagement
abbrev pub giving : Option Reason → Partner → Partner
giving r x = record x { standing = faulted r x.standing }

assembled_by : (x : Partner) (p : Peer) (r : Option Reason) (c d : Option Contact) (xs : List Channel) → length xs ≡ 4 →
    giving r (met_if (is_some c) (record x { standing = seen_in (record x.standing { contact = c }) (record p { contact = d }); channels = xs }))
    ≡ known_as (with_reason r (lifted (record x { standing = record x.standing { contact = c }; channels = xs }) (record p { contact = d }))) (λ c. []) (record x { standing = record x.standing { contact = c }; channels = xs })
assembled_by x p r None None xs h = four_of (λ (ys : List Channel).
    giving r (met_if false (record x { standing = seen_in (record x.standing { contact = None }) (record p { contact = None }); channels = ys }))
    ≡ known_as (with_reason r (lifted (record x { standing = record x.standing { contact = None }; channels = ys }) (record p { contact = None }))) (λ c. []) (record x { standing = record x.standing { contact = None }; channels = ys }))
    (λ a b c d. refl) xs h
assembled_by x p r None (Some m) xs h = four_of (λ (ys : List Channel).
    giving r (met_if false (record x { standing = seen_in (record x.standing { contact = None }) (record p { contact = Some m }); channels = ys }))
    ≡ known_as (with_reason r (lifted (record x { standing = record x.standing { contact = None }; channels = ys }) (record p { contact = Some m }))) (λ c. []) (record x { standing = record x.standing { contact = None }; channels = ys }))
    (λ a b c d. refl) xs h
assembled_by x p r (Some k) None xs h = four_of (λ (ys : List Channel).
    giving r (met_if true (record x { standing = seen_in (record x.standing { contact = Some k }) (record p { contact = None }); channels = ys }))
    ≡ known_as (with_reason r (lifted (record x { standing = record x.standing { contact = Some k }; channels = ys }) (record p { contact = None }))) (λ c. []) (record x { standing = record x.standing { contact = Some k }; channels = ys }))
    (λ a b c d. refl) xs h
assembled_by x p r (Some k) (Some m) xs h = four_of (λ (ys : List Channel).
    giving r (met_if true (record x { standing = seen_in (record x.standing { contact = Some k }) (record p { contact = Some m }); channels = ys }))
    ≡ known_as (with_reason r (lifted (record x { standing = record x.standing { contact = Some k }; channels = ys }) (record p { contact = Some m }))) (λ c. []) (record x { standing = record x.standing { contact = Some k }; channels = ys }))
    (λ a b c d. refl) xs h

assembled : (x : Partner) (f g : Effect Peer (ℕ → List Note)) → length x.channels ≡ 4 → Alike x f g →
    giving f.reason (met_if (is_some x.standing.contact) (record x { standing = seen_in x.standing f.local })) ≡ after_effect g x
assembled x f g h k =
    assembled_by x f.local f.reason x.standing.contact f.local.contact x.channels h
    ∙ ap (λ (n : ℕ → List Note). known_as (with_reason f.reason (lifted x f.local)) n x) (sym k.notes)
    ∙ ap (λ (p : Peer). known_as (with_reason f.reason p) g.notes x) (sym k.local)
    ∙ ap (λ (r : Option Reason). known_as (with_reason r g.local) g.notes x) (sym k.reason)

-- the ends join, and the reason is given
met_rooms : (r : Option Reason) (w y z : Partner) → y ≡ rooms_of w y → z ≡ giving r y → z ≡ rooms_of (giving r w) z
met_rooms r w y z h k = k ∙ ap (giving r) h ∙ ap (λ (v : Partner). rooms_of (giving r w) v) (sym k)

pub alone_made : (turn w : ℕ) (m : PeerRule) (x y z : Partner) → is_alone m ≡ true → length x.channels ≡ 4 →
    y ≡ rooms_of (met_if (is_some x.standing.contact) (record x { standing = stepped turn x.standing m (Word w) })) y →
    z ≡ giving (step_reason turn x.standing m (Word w)) y →
    z ≡ rooms_of (peer_made turn None m (Word w) x) z
alone_made turn w m x y z h l a b =
    let f = effect_on turn x.standing m (Word w) in
    let v = met_if (is_some x.standing.contact) (record x { standing = seen_in x.standing f.local }) in
    met_rooms f.reason v y z a b ∙ ap (λ (u : Partner). rooms_of u z) (assembled x f (peer_effect_on turn None m (Word w) x) l (alone_alike turn w m x h))

-- the own memory is closed: the ends go down, where there is a reason
closed_some : (x : Partner) (r : Reason) → length x.channels ≡ 4 →
    record x { standing = seen_in x.standing (area_left r (alone x.standing)).local; channels = each_kept (λ c e. link_down r e) 0 x.channels }
    ≡ known_as (area_left r (peer_seen x)).local (area_left r (peer_seen x)).notes x
closed_some x r h = four_of (λ (xs : List Channel).
    record x { standing = seen_in x.standing (area_left r (alone x.standing)).local; channels = each_kept (λ c e. link_down r e) 0 xs }
    ≡ known_as (area_left r (peer_seen (record x { channels = xs }))).local (area_left r (peer_seen (record x { channels = xs }))).notes (record x { channels = xs }))
    (λ a b c d. refl) x.channels h

none_said : (x : Partner) (f : Effect Peer (ℕ → List Note)) → f.reason ≡ None → known_as f.local f.notes x ≡ after_effect f x
none_said x f h =
    ap (λ (p : Peer). known_as p f.notes x) (sym (with_none f.local))
    ∙ ap (λ (r : Option Reason). known_as (with_reason r f.local) f.notes x) (sym h)

left_none : (r : Reason) (p : Peer) → (area_left r p).reason ≡ None
left_none r p = links_none (λ c e. link_down r e) (λ c e. down_none r e) p

pub unchanged : (x : Partner) → length x.channels ≡ 4 → x ≡ known_as (peer_seen x) (λ c. []) x
unchanged x h = four_of (λ (xs : List Channel). record x { channels = xs } ≡ known_as (peer_seen (record x { channels = xs })) (λ c. []) (record x { channels = xs })) (λ a b c d. refl) x.channels h

pub closed_made : (turn w : ℕ) (x : Partner) (r : Reason) → x.standing.engage.reason ≡ Some r → length x.channels ≡ 4 →
    record x { standing = stepped 0 x.standing CloseArea (Word 0); channels = each_kept (λ c e. link_down r e) 0 x.channels } ≡ peer_made turn None CloseArea (Word w) x
closed_made turn w x r h l =
    subst (λ (o : Option Reason). record x { standing = seen_in x.standing (area_left_for o (alone x.standing)).local; channels = each_kept (λ c e. link_down r e) 0 x.channels } ≡ after_effect (area_left_for o (peer_seen x)) x)
    (sym h) (closed_some x r l ∙ none_said x (area_left r (peer_seen x)) (left_none r (peer_seen x)))

pub closed_none : (turn w : ℕ) (x : Partner) → x.standing.engage.reason ≡ None → length x.channels ≡ 4 →
    record x { standing = stepped 0 x.standing CloseArea (Word 0) } ≡ peer_made turn None CloseArea (Word w) x
closed_none turn w x h l =
    subst (λ (o : Option Reason). record x { standing = seen_in x.standing (area_left_for o (alone x.standing)).local } ≡ after_effect (area_left_for o (peer_seen x)) x)
    (sym h) (unchanged x l ∙ ap (λ (p : Peer). known_as p (λ c. []) x) (sym (with_none (peer_seen x))))

pub ruleset closing = (closed_made, closed_none, own_rooms)

-- a word of the page
shown_look : (words : List ℕ) (stamp : ℕ) → shown_by (look_answered (judged words) stamp) ≡ judged words
shown_look words stamp = by (is_absent words) (nat_lt (slice_index words 1) 48 || nat_lt 63 (slice_index words 1)) where
  by : (a b : Bool) → shown_by (look_answered (if a then Absent else (if b then BadVersion (slice_index words 1) else Good (slice_index words 1))) stamp) ≡ (if a then Absent else (if b then BadVersion (slice_index words 1) else Good (slice_index words 1)))
  by true b = refl
  by false true = refl
  by false false = refl

shown_reason : (echo : Option ℕ) (look : Look) (stamp : ℕ) → look_reason echo (shown_by (look_answered look stamp)) (stamp_shown (look_answered look stamp)) ≡ look_reason echo look stamp
shown_reason None look stamp = refl
shown_reason (Some echo) Unseen stamp = refl
shown_reason (Some echo) Absent stamp = refl
shown_reason (Some echo) (BadVersion word) stamp = refl
shown_reason (Some echo) (Good version) stamp = refl

whole_look : (x : Partner) (words : List ℕ) (w : ℕ) → slice_index words 4 ≡ w → length x.channels ≡ 4 →
    record x { standing = looked_at (look_answer words) x.standing; paging = [] }
    ≡ after_effect (record { local = record (peer_seen x) { look = judged words; paging = []; both_new = both_new_by x.standing.version (judged words) x.standing.both_new }; reason = look_reason x.standing.engage.echo (judged words) w; notes = λ c. [] }) x
whole_look x words w h l =
    let stands : Look → Option Reason → Partner = λ look r. record x { standing = faulted r (record x.standing { look = look; both_new = both_new_by x.standing.version look x.standing.both_new }); paging = [] } in
    ap (λ (look : Look). stands look (look_reason x.standing.engage.echo (shown_by (look_answer words)) (stamp_shown (look_answer words)))) (shown_look words (slice_index words 4))
    ∙ ap (stands (judged words)) (shown_reason x.standing.engage.echo (judged words) (slice_index words 4) ∙ ap (look_reason x.standing.engage.echo (judged words)) h)
    ∙ four_of (λ (xs : List Channel). record x { standing = faulted (look_reason x.standing.engage.echo (judged words) w) (record x.standing { look = judged words; both_new = both_new_by x.standing.version (judged words) x.standing.both_new }); paging = []; channels = xs }
    ≡ after_effect (record { local = record (peer_seen (record x { channels = xs })) { look = judged words; paging = []; both_new = both_new_by x.standing.version (judged words) x.standing.both_new }; reason = look_reason x.standing.engage.echo (judged words) w; notes = λ c. [] }) (record x { channels = xs }))
    (λ a b c d. refl) x.channels l

part_look : (x : Partner) (words : List ℕ) → length x.channels ≡ 4 →
    record x { paging = words } ≡ after_effect (record { local = record (peer_seen x) { paging = words }; reason = None; notes = λ c. [] }) x
part_look x words l =
    four_of (λ (xs : List Channel). record x { paging = words; channels = xs } ≡ known_as (record (peer_seen (record x { channels = xs })) { paging = words }) (λ c. []) (record x { channels = xs })) (λ a b c d. refl) x.channels l
    ∙ ap (λ (p : Peer). known_as p (λ c. []) x) (sym (with_none (record (peer_seen x) { paging = words })))

last_word : (xs : List ℕ) (w : ℕ) → nat_eq (length (xs ++ w ∷ [])) 5 ≡ true → slice_index (xs ++ w ∷ []) 4 ≡ w
last_word [] w h = absurd (cc)
last_word (a ∷ []) w h = absurd (cc)
last_word (a ∷ b ∷ []) w h = absurd (cc)
last_word (a ∷ b ∷ c ∷ []) w h = absurd (cc)
last_word (a ∷ b ∷ c ∷ d ∷ []) w h = refl
last_word (a ∷ b ∷ c ∷ d ∷ e ∷ more) w h = absurd (let n = eqb-true (length ((a ∷ b ∷ c ∷ d ∷ e ∷ more) ++ w ∷ [])) 5 h in let m = length-append more (w ∷ []) in omega (arith, n, m))

-- what a look that goes on makes of it, and one that is whole
abbrev after_look : Option LookAnswer → List ℕ → Partner → Partner
after_look None words x = record x { paging = words }
after_look (Some answer) words x = record x { standing = looked_at answer x.standing; paging = words }

pub looked_made : (turn w : ℕ) (x : Partner) → length x.channels ≡ 4 →
    after_look (shown_after (x.paging ++ w ∷ [])) (words_after (x.paging ++ w ∷ [])) x ≡ peer_made turn None LookAtPage (Word w) x
looked_made turn w x l = by (nat_eq (length (x.paging ++ w ∷ [])) 5) refl where
  by : (b : Bool) → nat_eq (length (x.paging ++ w ∷ [])) 5 ≡ b → after_look (if b then Some (look_answer (x.paging ++ w ∷ [])) else None) (if b then [] else x.paging ++ w ∷ []) x
      ≡ after_effect (if b then record { local = record (peer_seen x) { look = judged (x.paging ++ w ∷ []); paging = []; both_new = both_new_by x.standing.version (judged (x.paging ++ w ∷ [])) x.standing.both_new }; reason = look_reason x.standing.engage.echo (judged (x.paging ++ w ∷ [])) w; notes = λ c. [] } else record { local = record (peer_seen x) { paging = x.paging ++ w ∷ [] }; reason = None; notes = λ c. [] }) x
  by true e = whole_look x (x.paging ++ w ∷ []) w (last_word x.paging w e) l
  by false e = part_look x (x.paging ++ w ∷ []) l

pub looked_some : (turn w : ℕ) (x : Partner) (answer : LookAnswer) → shown_after (x.paging ++ w ∷ []) ≡ Some answer → length x.channels ≡ 4 →
    record x { standing = looked_at answer x.standing; paging = words_after (x.paging ++ w ∷ []) } ≡ peer_made turn None LookAtPage (Word w) x
looked_some turn w x answer h l = ap (λ (o : Option LookAnswer). after_look o (words_after (x.paging ++ w ∷ [])) x) (sym h) ∙ looked_made turn w x l

pub looked_none : (turn w : ℕ) (x : Partner) → shown_after (x.paging ++ w ∷ []) ≡ None → length x.channels ≡ 4 →
    record x { paging = words_after (x.paging ++ w ∷ []) } ≡ peer_made turn None LookAtPage (Word w) x
looked_none turn w x h l = ap (λ (o : Option LookAnswer). after_look o (words_after (x.paging ++ w ∷ [])) x) (sym h) ∙ looked_made turn w x l

pub ruleset looking = (looked_some, looked_none, own_rooms)

-- a copy that failed
abbrev kind_made : ℕ → PeerRule → CopyMark → CopyKind → Partner → Partner
kind_made turn m mark kind x = peer_made turn (Some (record mark { kind = kind })) m Failed x

abbrev error_of : CopyMark → CopyKind → Reason
error_of mark kind = CopyError kind mark.number

pub failed_none : (turn : ℕ) (m : PeerRule) (x : Partner) → length x.channels ≡ 4 → x ≡ peer_made turn None m Failed x
failed_none turn m x l = unchanged x l ∙ ap (λ (p : Peer). known_as p (λ c. []) x) (sym (with_none (peer_seen x)))

echo_page : (turn : ℕ) (m : PeerRule) (mark : CopyMark) (x : Partner) (b : Bool) → length x.channels ≡ 4 → is_some x.standing.engage.echo ≡ b →
    giving (if b then Some (error_of mark Page) else None) (record x { paging = [] }) ≡ kind_made turn m mark Page x
echo_page turn m mark x b l e =
    four_of (λ (xs : List Channel). giving (if b then Some (error_of mark Page) else None) (record x { paging = []; channels = xs })
    ≡ known_as (with_reason (if b then Some (error_of mark Page) else None) (record (peer_seen (record x { channels = xs })) { paging = [] })) (λ c. []) (record x { channels = xs }))
    (λ a b c d. refl) x.channels l
    ∙ ap (λ (c : Bool). known_as (with_reason (if c then Some (error_of mark Page) else None) (record (peer_seen x) { paging = [] })) (λ d. []) x) (sym e)

pub failed_page : (turn : ℕ) (m : PeerRule) (mark : CopyMark) (x : Partner) → mark.kind ≡ Page → length x.channels ≡ 4 → is_some x.standing.engage.echo ≡ true →
    record x { paging = []; standing = faulted (Some (CopyError mark.kind mark.number)) x.standing } ≡ peer_made turn (Some mark) m Failed x
failed_page turn m mark x k l e = subst (λ (kind : CopyKind). record x { paging = []; standing = faulted (Some (error_of mark kind)) x.standing } ≡ kind_made turn m mark kind x) (sym k) (echo_page turn m mark x true l e)

pub dropped_page : (turn : ℕ) (m : PeerRule) (mark : CopyMark) (x : Partner) → mark.kind ≡ Page → length x.channels ≡ 4 → is_some x.standing.engage.echo ≡ false →
    record x { paging = [] } ≡ peer_made turn (Some mark) m Failed x
dropped_page turn m mark x k l e = subst (λ (kind : CopyKind). record x { paging = [] } ≡ kind_made turn m mark kind x) (sym k)
    (ap (λ (s : Standing). record x { paging = []; standing = s }) (sym (without_reason x.standing)) ∙ echo_page turn m mark x false l e)

pub failed_record : (turn : ℕ) (m : PeerRule) (mark : CopyMark) (x : Partner) → mark.kind ≡ RecordCopies → length x.channels ≡ 4 →
    record x { standing = faulted (Some (CopyError mark.kind mark.number)) (stepped 0 x.standing ReadRecord Failed) } ≡ peer_made turn (Some mark) m Failed x
failed_record turn m mark x k l = subst (λ (kind : CopyKind). record x { standing = faulted (Some (error_of mark kind)) (stepped 0 x.standing ReadRecord Failed) } ≡ kind_made turn m mark kind x) (sym k)
    (four_of (λ (xs : List Channel). record x { standing = faulted (Some (error_of mark RecordCopies)) (stepped 0 x.standing ReadRecord Failed); channels = xs } ≡ kind_made turn m mark RecordCopies (record x { channels = xs })) (λ a b c d. refl) x.channels l)

pub failed_beat : (turn : ℕ) (m : PeerRule) (mark : CopyMark) (x : Partner) → mark.kind ≡ Beat → length x.channels ≡ 4 →
    record x { standing = faulted (Some (CopyError mark.kind mark.number)) (stepped turn x.standing CheckBeat Failed) } ≡ peer_made turn (Some mark) m Failed x
failed_beat turn m mark x k l = subst (λ (kind : CopyKind). record x { standing = faulted (Some (error_of mark kind)) (stepped turn x.standing CheckBeat Failed) } ≡ kind_made turn m mark kind x) (sym k)
    (four_of (λ (xs : List Channel). record x { standing = faulted (Some (error_of mark Beat)) (stepped turn x.standing CheckBeat Failed); channels = xs } ≡ kind_made turn m mark Beat (record x { channels = xs })) (λ a b c d. refl) x.channels l)

abbrev is_other : CopyKind → Bool
is_other Page = false
is_other Beat = false
is_other RecordCopies = false
is_other kind = true

other_kind : (turn : ℕ) (m : PeerRule) (mark : CopyMark) (x : Partner) (kind : CopyKind) → is_other kind ≡ true → length x.channels ≡ 4 →
    record x { standing = faulted (Some (error_of mark kind)) x.standing } ≡ kind_made turn m mark kind x
other_kind turn m mark x kind o l = four_of (λ (xs : List Channel). record x { standing = faulted (Some (error_of mark kind)) x.standing; channels = xs } ≡ kind_made turn m mark kind (record x { channels = xs })) (λ a b c d. by a b c d kind o) x.channels l where
  by : (a b c d : Channel) (kind : CopyKind) → is_other kind ≡ true → record x { standing = faulted (Some (error_of mark kind)) x.standing; channels = a ∷ b ∷ c ∷ d ∷ [] } ≡ kind_made turn m mark kind (record x { channels = a ∷ b ∷ c ∷ d ∷ [] })
  by a b c d Counters o = refl
  by a b c d Get o = refl
  by a b c d Entries o = refl
  by a b c d Page o = absurd (cc)
  by a b c d Beat o = absurd (cc)
  by a b c d RecordCopies o = absurd (cc)
  by a b c d Args o = refl
  by a b c d Buffer o = refl

pub failed_other : (turn : ℕ) (m : PeerRule) (mark : CopyMark) (x : Partner) → is_other mark.kind ≡ true → length x.channels ≡ 4 →
    record x { standing = faulted (Some (CopyError mark.kind mark.number)) x.standing } ≡ peer_made turn (Some mark) m Failed x
failed_other turn m mark x o l = other_kind turn m mark x mark.kind o l

-- a word whose copy has a number
pub marked_made : (turn w : ℕ) (m : PeerRule) (mark : Option CopyMark) (x z : Partner) → z ≡ rooms_of (peer_made turn None m (Word w) (marked mark x)) z → z ≡ rooms_of (peer_made turn mark m (Word w) x) z
marked_made turn w m None x z h = h
marked_made turn w m (Some mark) x z h = h

some_equal : (a b : Session × Session) → Some a ≡ Some b → a ≡ b
some_equal a b h = ap (either a) h where
  either : Session × Session → Option (Session × Session) → Session × Session
  either d None = d
  either d (Some c) = c

-- the ends are in contact
pub met_known : (x : Partner) (p : Session × Session) → sessions_of x.standing.contact ≡ Some p → record x { channels = each_kept (λ c e. link_joined x.standing.both_new (contact_of p.0 p.1) e) 0 x.channels } ≡ met_if false x
met_known x p h = by x.standing.contact h where
  by : (c : Option Contact) → sessions_of c ≡ Some p → record x { channels = each_kept (λ c e. link_joined x.standing.both_new (contact_of p.0 p.1) e) 0 x.channels } ≡ met_by false c x
  by None h = absurd (cc)
  by (Some m) h = let e : (m.own, m.theirs) ≡ p = some_equal (m.own, m.theirs) p h in ap (λ (q : Session × Session). record x { channels = each_kept (λ c e. link_joined x.standing.both_new (contact_of q.0 q.1) e) 0 x.channels }) (sym e)

pub met_none : (x : Partner) → sessions_of x.standing.contact ≡ None → x ≡ met_if false x
met_none x h = by x.standing.contact h where
  by : (c : Option Contact) → sessions_of c ≡ None → x ≡ met_by false c x
  by None h = refl
  by (Some m) h = absurd (cc)

pub ruleset failing = (failed_none, failed_page, dropped_page, failed_record, failed_beat, failed_other, own_rooms)

pub ruleset meeting = (met_known, met_none, own_rooms, rooms_put)

-- a copy of another kind
other_of : (kind : CopyKind) → (kind ≡ Page → ⊥) → (kind ≡ RecordCopies → ⊥) → (kind ≡ Beat → ⊥) → is_other kind ≡ true
other_of Counters p r b = refl
other_of Get p r b = refl
other_of Entries p r b = refl
other_of Page p r b = absurd (p refl)
other_of Beat p r b = absurd (b refl)
other_of RecordCopies p r b = absurd (r refl)
other_of Args p r b = refl
other_of Buffer p r b = refl

pub failed_rest : (turn : ℕ) (m : PeerRule) (mark : CopyMark) (x : Partner) → (mark.kind ≡ Page → ⊥) → (mark.kind ≡ RecordCopies → ⊥) → (mark.kind ≡ Beat → ⊥) → length x.channels ≡ 4 →
    record x { standing = faulted (Some (CopyError mark.kind mark.number)) x.standing } ≡ peer_made turn (Some mark) m Failed x
failed_rest turn m mark x p r b l = other_kind turn m mark x mark.kind (other_of mark.kind p r b) l

-- how the sessions of a contact tell of it
pub sessions_some : (c : Option Contact) → is_some (sessions_of c) ≡ is_some c
sessions_some None = refl
sessions_some (Some m) = refl
