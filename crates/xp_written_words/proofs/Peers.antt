-- What a partition knows of the words that are stored for a partner: the session that was read has 64 bits, an area is opened fewer than 2 ^ 32 times in a boot, and each end is backed.
use Rattle.std.proofs.Common.{◌≡◌, ℕ, ◌^◌, ◌<◌, ◌≤◌, Bool, true, false, not, ◌&&◌, cond, eqb, List, [], ◌∷◌, ◌++◌, length, set, refl, sym, subst, arith, Option, Some, None}
use Rattle.std.specs.Prelude.{is_some, nat_lt, nat_eq}
use Rattle.std.proofs.lemmas.Bool.{and_parts, ltb-true}
use Rattle.xp_base.specs.declared.body.TheConstants.{LINE_BYTES}
use Rattle.xp_base.specs.declared.reason.Reason.{Reason}
use Rattle.xp_base.specs.declared.reason.Reason.TheVariants.{OtherGoingDown}
use Rattle.xp_base.specs.declared.step.CopyMark.{CopyMark}
use Rattle.xp_base.specs.Kinds.{kinds_in}
use Rattle.xp_protocol.specs.declared.contact.PartnerState.TheVariants.{Active}
use Rattle.xp_protocol.specs.declared.rule.AreaWord.TheVariants.{SessionWord, EchoWord, PlaceWord, ArgsWord, FlagWord, CounterWord}
use Rattle.xp_protocol.specs.declared.rule.PeerRule.{PeerRule}
use Rattle.xp_protocol.specs.declared.rule.PeerRule.TheVariants.{AskActivation, TakeFlags, CloseArea, ZeroMagic, ClearOldBit, Prepare, OpenArea, SetEngagementBit, ReadRecord, StoreEcho, StoreSecond, ClearEngagementBit, LookAtPage, CheckBeat, ClearDeactivationBit, TellPartner}
use Rattle.xp_protocol.specs.Effects.{Effect, Note}
use Rattle.xp_protocol.specs.State.{End, Peer, Engage, Reading, Area, cold_peer, idle_end, link_at}
use Rattle.xp_protocol.specs.Linking.{link_down, link_finished, link_joined, flags_got, booted_end}
use Rattle.xp_protocol.specs.Peering.{Here, all_links, same_peer, is_bad_flags, with_flags, area_left_for, left_engage, contact_made, contact_of, try_contact, record_read, peer_can, peer_effect, is_prepared, area_off, freed_engage, peer_read, deactivation_heard, is_left, is_flagged, is_magic, is_wrong, is_open, has_shown, with_reason, peer_failed, booted_peer}
use Rattle.xp_protocol.specs.Rules.{peer_numbered}
use Rattle.xp_protocol.proofs.Frames.{idle_at}
use Rattle.xp_protocol.proofs.Slots.{at_each, at_slot}
use Rattle.xp_written_words.proofs.Ends.{Backed, facts, more_begun, Keeps, idle_backed, takes, goes_down, finishes, joins, boots}

pub record BackedBy (most begun : ℕ) (session : Option ℕ) (opened : ℕ) (links : List End) : Type 0 where
  pub read : (v : ℕ) → session ≡ Some v → v < 2 ^ 64
  pub count : opened < 2 ^ 32
  pub ends : (c : ℕ) → Backed most begun (facts (link_at links c))

abbrev pub IsBacked : ℕ → ℕ → Peer → Type 0
IsBacked most begun p = BackedBy most begun p.engage.read p.engage.count p.links

-- the own memory for this partner isn't open, and is never prepared
abbrev pub IsShut : Peer → Type 0
IsShut p = (is_open p.engage.area ≡ false) × (p.engage.session_put ≡ false)

pub more_peer : (most a b : ℕ) (p : Peer) → a ≤ b → IsBacked most a p → IsBacked most b p
more_peer most a b p l h = record { read = h.read; count = h.count; ends = λ c. more_begun most a b (facts (link_at p.links c)) l (h.ends c) }

prepared_count : (x : Engage) → is_prepared x ≡ true → x.count < 4294967295
prepared_count x t =
    let a = and_parts x.session_put _ t in
    let b = and_parts x.echo_put _ a.1 in
    let c = and_parts x.flags_put _ b.1 in
    let d = and_parts (nat_eq x.counters_put 255) _ c.1 in
    let e = and_parts (nat_lt x.count 4294967295) (x.deactivation_cleared && (nat_eq x.places_put 248 && nat_eq x.args_put 65535)) d.1 in
    ltb-true x.count 4294967295 e.0

pub opens : (y : Here) (p : Peer) (m : PeerRule) → peer_can y p m → m ≡ OpenArea → is_prepared p.engage ≡ true
opens y p m can e = let k = subst (λ (x : PeerRule). peer_can y p x) e can in k.1

pub numbered_prepared : (mark : Option CopyMark) (p : Peer) → is_prepared p.engage ≡ true → is_prepared (peer_numbered mark p).engage ≡ true
numbered_prepared None p h = h
numbered_prepared (Some mark) p h = h

same_read : (w v : ℕ) → Some w ≡ Some v → w ≡ v
same_read w v e = cc

module _ (most begun : ℕ) (line : LINE_BYTES ≤ most) where
  abbrev On : Peer → Type 0
  On p = IsBacked most begun p

  pub cold_backed : (area : Area) → On (cold_peer area)
  cold_backed area = record { read = λ v e. absurd (cc); count = omega arith; ends = λ c. subst (λ (x : End). Backed most begun (facts x)) (sym (idle_at c)) (idle_backed most begun line) }

  each_links : (f : ℕ → End → Effect End (List Note)) (p : Peer) → ((c : ℕ) (e : End) → Keeps most begun line e (f c e)) → On p → On (all_links f p).local
  each_links f p k h = record {
    read = h.read;
    count = h.count;
    ends = λ c. at_each (λ (x : End). Backed most begun (facts x)) (λ i e. (f i e).local) p.links c idle_end (k c (link_at p.links c) (h.ends c)) (λ l. idle_backed most begun line);
  }

  either : (b : Bool) (f g : Effect Peer (ℕ → List Note)) → On f.local → On g.local → On (cond b f g).local
  either true f g x y = x
  either false f g x y = y

  meets : (turn stamp : ℕ) (z : Peer) → On z → On (try_contact turn stamp z).local
  meets turn stamp z h = either (z.engage.second && (z.engage.shown && not (is_some z.contact))) (contact_made turn stamp z) (same_peer z)
      (each_links (λ c e. link_joined z.both_new (contact_of stamp z.engage) e) (record z { contact = Some (contact_of stamp z.engage); engage = record z.engage { state = Active } }) (λ c e. joins most begun line z.both_new (contact_of stamp z.engage) e) h) h

  reads : (y : Here) (p : Peer) (w : ℕ) → w < 2 ^ 64 → On p → (o : Option Reading) → On (record_read y p o w).local
  reads y p w small h None = either (eqb w 0) _ _ h (either (is_magic w) _ _ h h)
  reads y p w small h (Some r) =
      either (eqb r.done 1) _ _ (record { read = λ v e. subst (λ (n : ℕ). n < 2 ^ 64) (same_read w v e) small; count = h.count; ends = h.ends }) (either (eqb r.done 2) _ _ h (either (eqb r.done 7) _ _
      (either (has_shown y.stamp p.engage r) _ _ (meets y.turn y.stamp (record p { engage = record p.engage { shown = true; reading = None } }) h) h)
      (either (is_wrong y.part r.done w) _ _ h h)))

  left : (o : Option Reason) (p : Peer) → On p → On (area_left_for o p).local
  left None p h = h
  left (Some reason) p h = each_links (λ c e. link_down reason e) (record p { contact = None; engage = left_engage p.engage }) (λ c e. goes_down most begun line reason e) h

  pub peered : (y : Here) (p : Peer) (m : PeerRule) (w : ℕ) → (m ≡ OpenArea → is_prepared p.engage ≡ true) → w < 2 ^ 64 → On p → On (peer_effect y p m w).local
  peered y p AskActivation w can small h = h
  peered y p TakeFlags w can small h = either (is_bad_flags w) _ _ h (each_links (λ c e. flags_got (kinds_in w c) e) (with_flags w p) (λ c e. takes most begun line (kinds_in w c) e) h)
  peered y p CloseArea w can small h = left p.engage.reason p h
  peered y p ZeroMagic w can small h = h
  peered y p ClearOldBit w can small h = h
  peered y p (Prepare SessionWord) w can small h = h
  peered y p (Prepare EchoWord) w can small h = h
  peered y p (Prepare (PlaceWord x)) w can small h = h
  peered y p (Prepare (ArgsWord c f)) w can small h = h
  peered y p (Prepare FlagWord) w can small h = h
  peered y p (Prepare (CounterWord c f)) w can small h = h
  peered y p OpenArea w can small h = let l = prepared_count p.engage (can refl) in record { read = h.read; count = omega (arith, l); ends = h.ends }
  peered y p SetEngagementBit w can small h = record { read = λ v e. absurd (cc); count = h.count; ends = h.ends }
  peered y p ReadRecord w can small h = reads y p w small h p.engage.reading
  peered y p StoreEcho w can small h = h
  peered y p StoreSecond w can small h = meets y.turn y.stamp (record p { engage = record p.engage { second = true } }) h
  peered y p ClearEngagementBit w can small h = record { read = λ v e. absurd (cc); count = h.count; ends = h.ends }
  peered y p LookAtPage w can small h = either (eqb (length (p.paging ++ w ∷ [])) 5) _ _ h h
  peered y p CheckBeat w can small h = h
  peered y p ClearDeactivationBit w can small h = h
  peered y p TellPartner w can small h = h

  pub numbered : (mark : Option CopyMark) (p : Peer) → On p → On (peer_numbered mark p)
  numbered None p h = h
  numbered (Some mark) p h = h

  pub failed : (turn : ℕ) (mark : Option CopyMark) (p : Peer) → On p → On (peer_failed turn mark p)
  failed turn None p h = h
  failed turn (Some mark) p h = h

  pub freed : (w q : ℕ) (p : Peer) → On p → On (peer_read w q p).local
  freed w q p h = either (is_left p.engage && not (is_flagged w q)) (area_off p) (same_peer p) (each_links (λ c e. link_finished e) (record p { contact = None; engage = freed_engage p.engage }) (λ c e. finishes most begun line e) (record { read = λ v e. absurd (cc); count = h.count; ends = h.ends })) h

  pub told : (w q : ℕ) (p : Peer) → On p → On (deactivation_heard w q p).local
  told w q p h = by (is_some p.engage.echo && is_flagged w q) where
    by : (b : Bool) → On (cond b (with_reason (Some (OtherGoingDown w)) p) p)
    by true = h
    by false = h

  -- one end is replaced
  pub set_end : (p : Peer) (c : ℕ) (x : End) → Backed most begun (facts x) → On p → (d : ℕ) → Backed most begun (facts (link_at (set p.links c x) d))
  set_end p c x new h d = at_slot (λ (e : End). Backed most begun (facts e)) p.links c d x idle_end (λ e. new) (h.ends d)

  pub booted : (n : ℕ) (p : Peer) → IsBacked most n p → On (booted_peer p)
  booted n p h = record {
    read = λ v e. absurd (cc);
    count = omega arith;
    ends = λ c. at_each (λ (x : End). Backed most begun (facts x)) (λ i e. booted_end e) p.links c idle_end (boots most begun line n (link_at p.links c) (h.ends c)) (λ l. idle_backed most begun line);
  }

-- the same of a partner that is shut
pub shut_read : (w q : ℕ) (p : Peer) → IsShut p → IsShut (peer_read w q p).local
shut_read w q p h = by (is_left p.engage && not (is_flagged w q)) where
  by : (b : Bool) → IsShut (cond b (area_off p) (same_peer p)).local
  by true = (refl, refl)
  by false = h

pub shut_told : (w q : ℕ) (p : Peer) → IsShut p → IsShut (deactivation_heard w q p).local
shut_told w q p h = by (is_some p.engage.echo && is_flagged w q) where
  by : (b : Bool) → IsShut (cond b (with_reason (Some (OtherGoingDown w)) p) p)
  by true = h
  by false = h
