-- What a rule leaves: for each footprint one lemma. A fact of an end and of what is noted there holds after a rule if it holds of what the rule makes of the end,
-- where the end is in its footprint, and else of the end as it was with nothing noted.
use Rattle.std.proofs.Common.{◌≡◌, ℕ, ◌+◌, ◌<◌, ◌≤◌, Bool, true, false, cond, eqb, List, [], ◌∷◌, ◌++◌, length, refl, ap, sym, ◌∙◌, subst, arith, set, get_or-set_same, get_or-set_other, replicate, Option, Some, None, inl, inr, ◌⊎◌}
use Rattle.std.proofs.lemmas.Bool.{cases_eq, cases_lt, eq-eqb, ne_eqb, cond_both}
use Rattle.std.proofs.lemmas.List.{get_or_past, get_or-replicate, length-set, length-replicate}
use Rattle.xp_base.specs.declared.step.Answer.{Answer}
use Rattle.xp_base.specs.declared.step.Answer.TheVariants.{Word, Failed}
use Rattle.xp_protocol.specs.declared.rule.LinkRule.{LinkRule}
use Rattle.xp_protocol.specs.declared.rule.PeerRule.{PeerRule}
use Rattle.xp_protocol.specs.declared.rule.PeerRule.TheVariants.{AskActivation, TakeFlags, CloseArea, ZeroMagic, ClearOldBit, Prepare, OpenArea, SetEngagementBit, ReadRecord, StoreEcho, StoreSecond, ClearEngagementBit, LookAtPage, CheckBeat, ClearDeactivationBit, TellPartner}
use Rattle.xp_protocol.specs.declared.rule.OwnRule.{OwnRule}
use Rattle.xp_protocol.specs.declared.rule.OwnRule.TheVariants.{ReadEngaged, TakeDeactivation, ReadStamp, ZeroMask, ZeroOffline, WriteStamp, StoreMask, TakeActivation, StoreBeat, StoreOffline}
use Rattle.xp_protocol.specs.declared.rule.Rule.{Rule}
use Rattle.xp_protocol.specs.declared.rule.Rule.TheVariants.{Link, Peer as ForPeer, Own}
use Rattle.xp_script.specs.declared.part.ScenarioPart.{ScenarioPart}
use Rattle.xp_base.specs.declared.reason.Reason.{Reason}
use Rattle.xp_base.specs.History.{Act}
use Rattle.xp_protocol.specs.Effects.{Effect, Note}
use Rattle.xp_protocol.specs.State.{State, End, Peer, Going, Old, cold_peer, idle_end, idle_links, link_at, peer_at, end_at, end_of, peer_of, set_link, each}
use Rattle.xp_protocol.specs.Peering.{booted_peer, try_contact, contact_made, same_peer, Here, peer_failed, has_shown, is_wrong, record_read, is_magic, all_links, all_peers, is_flagged, area_left_for, peer_effect, peer_read, deactivation_heard, own_effect, with_reason, end_reason, is_bad_flags}
use Rattle.std.specs.Prelude.{is_some, ◌&&◌, not}
use Rattle.xp_base.specs.declared.step.CopyMark.{CopyMark}
use Rattle.xp_protocol.specs.State.{Reading}
use Rattle.xp_base.specs.declared.reason.Reason.TheVariants.{OtherGoingDown}
use Rattle.xp_protocol.specs.Rules.{here_of, mark_of, numbered, peer_numbered, link_answered, peer_answered, after_answer, noted_rule, place_for}
use Rattle.xp_script.specs.declared.command.Command.{Command}
use Rattle.xp_script.specs.declared.command.Command.TheVariants as commands
use Rattle.xp_protocol.specs.Acts.{Aim, aimed, with_aim, noted_aim, after_act, command_begun, unwanted, wanted_again, peers_wanted}
use Rattle.xp_protocol.proofs.Slots.{at_slot, at_peer, at_each}

-- there are so many partners, each with 4 channels
pub record AreAll (n : ℕ) (peers : List Peer) : Type 0 where
  pub partners : length peers ≡ n
  pub channels : (q : ℕ) → length (peer_at peers q).links ≡ 4

pub idle_four : length idle_links ≡ 4
unfolding idle_links
idle_four = length-replicate {A = End} 4 idle_end

pub set_all : {n : ℕ} (peers : List Peer) (k : ℕ) (p : Peer) → length p.links ≡ 4 → AreAll n peers → AreAll n (set peers k p)
set_all peers k p n h = record { partners = length-set peers k p ∙ h.partners; channels = λ q. at_slot (λ (x : Peer). length x.links ≡ 4) peers k q p (cold_peer Old) (λ e. n) (h.channels q) }

pub length-each : {A : Type 0} (f : ℕ → A → A) (n : ℕ) (xs : List A) → length (each f n xs) ≡ length xs
length-each f n [] = refl
length-each f n (x ∷ xs) = let e = length-each f (n + 1) xs in omega (arith, e)

each_all : {n : ℕ} (f : ℕ → Peer → Peer) (peers : List Peer) → ((q : ℕ) (p : Peer) → length p.links ≡ 4 → length (f q p).links ≡ 4) → AreAll n peers → AreAll n (each f 0 peers)
each_all f peers keeps h = record { partners = length-each f 0 peers ∙ h.partners; channels = λ q. at_each (λ (x : Peer). length x.links ≡ 4) f peers q (cold_peer Old) (keeps q (peer_at peers q) (h.channels q)) (λ l. idle_four) }

-- one end of a partner is replaced
link_by : (Q : End → List Note → Type 0) (links : List End) (d : ℕ) (x : End) (ns : List Note) (c : ℕ) → length links ≡ 4 → d < 4 → (d ≡ c → Q x ns) → ((d ≡ c → ⊥) → Q (link_at links c) []) → Q (link_at (set links d x) c) (cond (eqb d c) ns [])
link_by Q links d x ns c n l new old = by (cases_eq d c) where
  by : (d ≡ c) ⊎ (d ≡ c → ⊥) → Q (link_at (set links d x) c) (cond (eqb d c) ns [])
  by (inl e) = rw (eq-eqb d c e) (subst (λ (j : ℕ). Q (link_at (set links d x) j) ns) e (rw (get_or-set_same links d x idle_end (omega (arith, n))) (new e)))
  by (inr m) = rw (ne_eqb d c m, get_or-set_other links d c x idle_end (λ f. m (sym f))) (old m)

-- one partner is replaced
peer_by : {n : ℕ} (Q : End → List Note → Type 0) (peers : List Peer) (k : ℕ) (p : Peer) (ns : List Note) (q c : ℕ) → length peers ≡ n → k < n → (k ≡ q → Q (link_at p.links c) ns) → ((k ≡ q → ⊥) → Q (end_at peers q c) []) → Q (end_at (set peers k p) q c) (cond (eqb k q) ns [])
peer_by Q peers k p ns q c n l new old = by (cases_eq k q) where
  by : (k ≡ q) ⊎ (k ≡ q → ⊥) → Q (end_at (set peers k p) q c) (cond (eqb k q) ns [])
  by (inl e) = rw (eq-eqb k q e) (subst (λ (j : ℕ). Q (end_at (set peers k p) j c) ns) e (subst (λ (x : Peer). Q (link_at x.links c) ns) (sym (get_or-set_same peers k p (cold_peer Old) (omega (arith, n)))) (new e)))
  by (inr m) = rw (ne_eqb k q m) (subst (λ (x : Peer). Q (link_at x.links c) []) (sym (get_or-set_other peers k q p (cold_peer Old) (λ f. m (sym f)))) (old m))

-- each end of a partner, and each partner
pub links_framed : (Q : End → List Note → Type 0) (f : ℕ → End → Effect End (List Note)) (p : Peer) (c : ℕ) → length p.links ≡ 4 → c < 4 → Q (f c (link_at p.links c)).local (f c (link_at p.links c)).notes → Q (link_at (all_links f p).local.links c) ((all_links f p).notes c)
links_framed Q f p c n l new = at_each (λ (x : End). Q x (f c (link_at p.links c)).notes) (λ i e. (f i e).local) p.links c idle_end new (λ m. absurd (omega (arith, n, m, l)))

pub peers_framed : {n : ℕ} (Q : End → List Note → Type 0) (f : ℕ → Peer → Effect Peer (ℕ → List Note)) (peers : List Peer) (q c : ℕ) → AreAll n peers → q < n → Q (link_at (f q (peer_at peers q)).local.links c) ((f q (peer_at peers q)).notes c) → Q (end_at (all_peers f peers).local q c) ((all_peers f peers).notes q c)
peers_framed Q f peers q c h l new = at_each (λ (x : Peer). Q (link_at x.links c) ((f q (peer_at peers q)).notes c)) (λ i p. (f i p).local) peers q (cold_peer Old) new (λ m. absurd (omega (arith, h.partners, m, l)))

-- the frame of a step at one end
pub link_frame : {n : ℕ} (Q : End → List Note → Type 0) (s : ScenarioPart) (st : State) (k d : ℕ) (m : LinkRule) (a : Answer) (q c : ℕ) → AreAll n st.peers → k < n → d < 4 →
    (k ≡ q → d ≡ c → let f = link_answered (mark_of s st (Link k d m)) (place_for s d) (end_of st k d) m a in Q f.local f.notes) → ((k ≡ q → d ≡ c → ⊥) → Q (end_of st q c) []) →
    Q (end_of (after_answer s st (Link k d m) a) q c) (noted_rule s st (Link k d m) a q c)
link_frame Q s st k d m a q c h lk ld new old =
    let f = link_answered (mark_of s st (Link k d m)) (place_for s d) (end_of st k d) m a in
    let ns = cond (eqb d c) f.notes [] in
    peer_by Q st.peers k (with_reason (end_reason (peer_of st k).flags_seen f.reason) (set_link (numbered (mark_of s st (Link k d m)) d (peer_of st k)) d f.local)) ns q c h.partners lk
    (λ e. link_by Q (peer_of st k).links d f.local f.notes c (h.channels k) ld (λ g. new e g) (λ n. subst (λ (j : ℕ). Q (end_of st j c) []) (sym e) (old (λ x y. n y)))) (λ n. old (λ x y. n x))

-- the frame of a step for one partner
pub peer_frame : {n : ℕ} (Q : End → List Note → Type 0) (s : ScenarioPart) (st : State) (k : ℕ) (m : PeerRule) (a : Answer) (q c : ℕ) → AreAll n st.peers → k < n →
    (k ≡ q → let f = peer_answered (here_of s st k) (mark_of s st (ForPeer k m)) (peer_of st k) m a in Q (link_at f.local.links c) (f.notes c)) → ((k ≡ q → ⊥) → Q (end_of st q c) []) →
    Q (end_of (after_answer s st (ForPeer k m) a) q c) (noted_rule s st (ForPeer k m) a q c)
peer_frame Q s st k m a q c h lk new old =
    let f = peer_answered (here_of s st k) (mark_of s st (ForPeer k m)) (peer_of st k) m a in
    peer_by Q st.peers k (with_reason f.reason f.local) (f.notes c) q c h.partners lk new old

-- the frame of an act
pub aim_frame : {n : ℕ} (Q : End → List Note → Type 0) (st : State) (y : Aim) (q c : ℕ) → AreAll n st.peers → y.partner < n → y.channel < 4 →
    (y.partner ≡ q → y.channel ≡ c → Q y.effect.local y.effect.notes) → Q (end_of st q c) [] → Q (end_of (with_aim (Some y) st) q c) (noted_aim (Some y) q c)
aim_frame Q st y q c h lp lc new old =
    let ns = cond (eqb y.channel c) y.effect.notes [] in
    peer_by Q st.peers y.partner (set_link (peer_of st y.partner) y.channel y.effect.local) ns q c h.partners lp
    (λ e. link_by Q (peer_of st y.partner).links y.channel y.effect.local y.effect.notes c (h.channels y.partner) lc (λ g. new e g) (λ n. subst (λ (j : ℕ). Q (end_of st j c) []) (sym e) old)) (λ n. old)

-- all stays there
left_all : (o : Option Reason) (p : Peer) → length p.links ≡ 4 → length (area_left_for o p).local.links ≡ 4
left_all None p n = n
left_all (Some reason) p n = length-each _ 0 p.links ∙ n

flags_all : (y : Here) (w : ℕ) (p : Peer) (b : Bool) → is_bad_flags w ≡ b → length p.links ≡ 4 → length (peer_effect y p TakeFlags w).local.links ≡ 4
flags_all y w p true e n = rw e n
flags_all y w p false e n = rw e (length-each _ 0 p.links ∙ n)

pub cond_peer : (P : Peer → Type 0) (b : Bool) (x y : Effect Peer (ℕ → List Note)) → P x.local → P y.local → P (cond b x y).local
cond_peer P true x y a b = a
cond_peer P false x y a b = b

contact_all : (n t : ℕ) (p : Peer) → length p.links ≡ 4 → length (try_contact n t p).local.links ≡ 4
contact_all k t p n = cond_peer (λ (x : Peer). length x.links ≡ 4) (p.engage.second && (p.engage.shown && not (is_some p.contact))) (contact_made k t p) (same_peer p) (length-each _ 0 p.links ∙ n) n

read_all : (y : Here) (p : Peer) (o : Option Reading) (w : ℕ) → length p.links ≡ 4 → length (record_read y p o w).local.links ≡ 4
read_all y p None w n = cond_peer P (eqb w 0) _ _ n (cond_peer P (is_magic w) _ _ n n) where
  P : Peer → Type 0
  P x = length x.links ≡ 4
read_all y p (Some r) w n =
    cond_peer P (eqb r.done 1) _ _ n (cond_peer P (eqb r.done 2) _ _ n (cond_peer P (eqb r.done 7) _ _ (cond_peer P (has_shown y.stamp p.engage r) _ _ (contact_all y.turn y.stamp (record p { engage = record p.engage { shown = true; reading = None } }) n) n) (cond_peer P (is_wrong y.part r.done w) _ _ n n))) where
      P : Peer → Type 0
      P x = length x.links ≡ 4

peer_all : (y : Here) (p : Peer) (m : PeerRule) (w : ℕ) → length p.links ≡ 4 → length (peer_effect y p m w).local.links ≡ 4
peer_all y p AskActivation w n = n
peer_all y p TakeFlags w n = flags_all y w p (is_bad_flags w) refl n
peer_all y p CloseArea w n = left_all p.engage.reason p n
peer_all y p ZeroMagic w n = n
peer_all y p ClearOldBit w n = n
peer_all y p (Prepare x) w n = n
peer_all y p OpenArea w n = n
peer_all y p SetEngagementBit w n = n
peer_all y p ReadRecord w n = read_all y p p.engage.reading w n
peer_all y p StoreEcho w n = n
peer_all y p StoreSecond w n = contact_all y.turn y.stamp (record p { engage = record p.engage { second = true } }) n
peer_all y p ClearEngagementBit w n = n
peer_all y p LookAtPage w n = cond_peer (λ (x : Peer). length x.links ≡ 4) (eqb (length (p.paging ++ w ∷ [])) 5) _ _ n n
peer_all y p CheckBeat w n = n
peer_all y p ClearDeactivationBit w n = n
peer_all y p TellPartner w n = n

own_all : {n : ℕ} (peers : List Peer) (m : OwnRule) (w : ℕ) → AreAll n peers → AreAll n (own_effect peers m w).local
own_all peers ReadEngaged w h = each_all (λ q p. (peer_read w q p).local) peers (λ q p n. cond_peer (λ (x : Peer). length x.links ≡ 4) _ _ _ (length-each _ 0 p.links ∙ n) n) h
own_all peers WriteStamp w h = h
own_all peers ReadStamp w h = h
own_all peers ZeroMask w h = h
own_all peers ZeroOffline w h = h
own_all peers StoreMask w h = h
own_all peers TakeActivation w h = h
own_all peers StoreBeat w h = h
own_all peers StoreOffline w h = h
own_all peers TakeDeactivation w h = each_all (λ q p. (deactivation_heard w q p).local) peers (λ q p n. cond_both (is_some p.engage.echo && is_flagged w q) (with_reason (Some (OtherGoingDown w)) p) p (λ x. length x.links ≡ 4) (λ e. n) (λ e. n)) h

numbered_all : (mark : Option CopyMark) (p : Peer) → length p.links ≡ 4 → length (peer_numbered mark p).links ≡ 4
numbered_all None p n = n
numbered_all (Some mark) p n = n

failed_all : (t : ℕ) (mark : Option CopyMark) (p : Peer) → length p.links ≡ 4 → length (peer_failed t mark p).links ≡ 4
failed_all t None p n = n
failed_all t (Some mark) p n = n

pub rule_all : {n : ℕ} (s : ScenarioPart) (st : State) (r : Rule) (a : Answer) → AreAll n st.peers → AreAll n (after_answer s st r a).peers
rule_all s st (Link k d m) a h = set_all st.peers k _ (length-set (peer_of st k).links d _ ∙ h.channels k) h
rule_all s st (ForPeer k m) (Word w) h = set_all st.peers k _ (peer_all (here_of s st k) (peer_numbered (mark_of s st (ForPeer k m)) (peer_of st k)) m w (numbered_all (mark_of s st (ForPeer k m)) (peer_of st k) (h.channels k))) h
rule_all s st (ForPeer k m) Failed h = set_all st.peers k _ (failed_all (here_of s st k).turn (mark_of s st (ForPeer k m)) (peer_of st k) (h.channels k)) h
rule_all s st (Own m) (Word w) h = own_all st.peers m w h
rule_all s st (Own m) Failed h = h

aim_all : {n : ℕ} (st : State) (x : Option Aim) → AreAll n st.peers → AreAll n (with_aim x st).peers
aim_all st None h = h
aim_all st (Some y) h = set_all st.peers y.partner _ (length-set (peer_of st y.partner).links y.channel _ ∙ h.channels y.partner) h

-- what the beginning of a command makes of the partners: those that it doesn't name stay
pub wanted_at : (P : Peer → Type 0) (o : Option Command) (peers : List Peer) (q : ℕ) → ((p : Peer) → P p → P (unwanted p)) → ((p : Peer) → P p → P (wanted_again p)) → P (peer_at peers q) → P (peer_at (peers_wanted o peers) q)
wanted_at P (Some (commands.Deactivate k)) peers q off on h = at_peer P peers k (unwanted (peer_at peers k)) q (λ e. subst (λ (j : ℕ). P (unwanted (peer_at peers j))) e (off (peer_at peers q) h)) h
wanted_at P (Some (commands.Activate k)) peers q off on h = at_peer P peers k (wanted_again (peer_at peers k)) q (λ e. subst (λ (j : ℕ). P (wanted_again (peer_at peers j))) e (on (peer_at peers q) h)) h
wanted_at P (Some commands.Leave) peers q off on h = at_each P (λ j p. unwanted p) peers q (cold_peer Old) (off (peer_at peers q) h) (λ l. subst P (get_or_past peers q (cold_peer Old) l) h)
wanted_at P None peers q off on h = h
wanted_at P (Some (commands.Register k c entries limit)) peers q off on h = h
wanted_at P (Some (commands.Unregister k c)) peers q off on h = h
wanted_at P (Some (commands.Connected k c)) peers q off on h = h
wanted_at P (Some (commands.Closed k c)) peers q off on h = h
wanted_at P (Some (commands.Send k c payload wait notify)) peers q off on h = h
wanted_at P (Some (commands.Take k c wait)) peers q off on h = h
wanted_at P (Some (commands.Release k c number)) peers q off on h = h
wanted_at P (Some (commands.Drain k c)) peers q off on h = h
wanted_at P (Some (commands.Net frame)) peers q off on h = h
wanted_at P (Some (commands.Frames count)) peers q off on h = h
wanted_at P (Some (commands.Idle turns)) peers q off on h = h
wanted_at P (Some commands.Offline) peers q off on h = h
wanted_at P (Some commands.Online) peers q off on h = h

pub wanted_all : {n : ℕ} (o : Option Command) (peers : List Peer) → AreAll n peers → AreAll n (peers_wanted o peers)
wanted_all (Some (commands.Deactivate k)) peers h = set_all peers k (unwanted (peer_at peers k)) (h.channels k) h
wanted_all (Some (commands.Activate k)) peers h = set_all peers k (wanted_again (peer_at peers k)) (h.channels k) h
wanted_all (Some commands.Leave) peers h = each_all (λ q p. unwanted p) peers (λ q p n. n) h
wanted_all None peers h = h
wanted_all (Some (commands.Register k c entries limit)) peers h = h
wanted_all (Some (commands.Unregister k c)) peers h = h
wanted_all (Some (commands.Connected k c)) peers h = h
wanted_all (Some (commands.Closed k c)) peers h = h
wanted_all (Some (commands.Send k c payload wait notify)) peers h = h
wanted_all (Some (commands.Take k c wait)) peers h = h
wanted_all (Some (commands.Release k c number)) peers h = h
wanted_all (Some (commands.Drain k c)) peers h = h
wanted_all (Some (commands.Net frame)) peers h = h
wanted_all (Some (commands.Frames count)) peers h = h
wanted_all (Some (commands.Idle turns)) peers h = h
wanted_all (Some commands.Offline) peers h = h
wanted_all (Some commands.Online) peers h = h

pub act_all : {n : ℕ} (s : ScenarioPart) (st : State) (a : Act) → AreAll n st.peers → AreAll n (after_act s st a).peers
act_all s st a h = wanted_all (command_begun s st a) (with_aim (aimed s st a) st).peers (aim_all st (aimed s st a) h)

-- a rule leaves the script
pub rule_script : (s : ScenarioPart) (st : State) (r : Rule) (a : Answer) → (after_answer s st r a).script ≡ st.script
rule_script s st r a = refl

-- a step at one end leaves all but the ends and the reason of its partner
pub link_leaves : {B : Type 0} (f : Peer → B) (s : ScenarioPart) (st : State) (k d : ℕ) (m : LinkRule) (a : Answer) (q : ℕ) → ((p : Peer) (links : List End) (going : List Going) (reason : Option Reason) → f (with_reason reason (record p { links = links; going = going })) ≡ f p) → f (peer_of (after_answer s st (Link k d m) a) q) ≡ f (peer_of st q)
link_leaves f s st k d m a q same = at_slot (λ (p : Peer). f p ≡ f (peer_of st q)) st.peers k q _ (cold_peer Old) (λ e. same (peer_of st k) _ _ _ ∙ ap (λ (j : ℕ). f (peer_of st j)) (sym e)) refl

-- after a boot there are all
pub cold_all : {n : ℕ} (peers : List Peer) → AreAll n peers → AreAll n (each (λ q p. booted_peer p) 0 peers)
cold_all peers h = each_all (λ q p. booted_peer p) peers (λ q p n. length-each _ 0 p.links ∙ n) h

pub idle_at : (c : ℕ) → link_at idle_links c ≡ idle_end
unfolding idle_links
idle_at c = by (cases_lt c 4) where
  by : (c < 4) ⊎ (4 ≤ c) → link_at (replicate 4 idle_end) c ≡ idle_end
  by (inl l) = get_or-replicate 4 c idle_end idle_end l
  by (inr l) = get_or_past (replicate 4 idle_end) c idle_end (omega (arith, length-replicate {A = End} 4 idle_end, l))
