-- A partition that boots again: all its partners are as at a boot's begin.
use Rattle.std.proofs.Common.{◌≡◌, ℕ, zero, suc, ◌+◌, ◌<◌, ◌≤◌, ◌≢◌, false, true≢false, List, [], ◌∷◌, length, get_or, map, refl, ap, sym, ◌∙◌, subst, arith, Option}
use Rattle.std.specs.Prelude.{IsSome, ◌||◌}
use Rattle.std.proofs.lemmas.List.{length-set, length-map, ext_get_or, get_or-map as map_at}
use Rattle.std.proofs.Math.ListN.{get_or-map}
use Rattle.xp_protocol.specs.State.{End, Peer, Shake, Contact, no_shake, none_going, idle_end, each}
use Rattle.xp_protocol.specs.Linking.{booted_end}
use Rattle.xp_protocol.specs.Peering.{booted_peer}
use Rattle.xp_channel.specs.Channel.{Channel, new_channel}
use Rattle.xp_channel.specs.Room.{HasTurnRoom, needs_sides}
use Rattle.xp_partner.specs.Partner.{Partner, peer_seen, end_seen, rooms_of, channel_at}
use Rattle.xp_partner.specs.Booting.{each_booted}
use Rattle.xp_partner.specs.Room.{HaveTurnRoom}
use Rattle.xp_partition.specs.Partners.{Partners, no_partner, partner_at, with_partner, booted_anew}
use Rattle.xp_partition.proofs.Roomy.{other_at, at_or}
use Rattle.xp_partition.proofs.Opened.{seen_rooms}

abbrev pub IsBootedFrom : Partner → Partner → Type 0
IsBootedFrom x y = y ≡ rooms_of (booted_anew x) y

pub record Booting (x : Partners) (n : ℕ) (y : Partners) : Type 0 where
  pub count : length y.list ≡ length x.list
  pub touched : y.touched ≡ x.touched
  pub over : (q : ℕ) → q < n → IsBootedFrom (partner_at x.list q) (partner_at y.list q)
  pub rest : (q : ℕ) → n ≤ q → partner_at y.list q ≡ partner_at x.list q

pub booting_first : (x : Partners) → Booting x 0 x
booting_first x = record { count = refl; touched = refl; over = λ q l. absurd (omega (arith, l)); rest = λ q l. refl }

pub booting_next : (x y z : Partners) (n : ℕ) → n < length y.list → Booting x n y → z ≡ with_partner n (partner_at z.list n) y → IsBootedFrom (partner_at y.list n) (partner_at z.list n) → Booting x (n + 1) z
booting_next x y z n l h w b = record {
  count = ap (λ (v : Partners). length v.list) w ∙ length-set y.list n (partner_at z.list n) ∙ h.count;
  touched = ap (λ (v : Partners). v.touched) w ∙ h.touched;
  over = at_or (λ q. q < n + 1 → IsBootedFrom (partner_at x.list q) (partner_at z.list q)) n
      (λ k. subst (λ (p : Partner). IsBootedFrom p (partner_at z.list n)) (h.rest n (omega arith)) b)
      (λ q d k. subst (IsBootedFrom (partner_at x.list q)) (sym (others q d)) (h.over q (grind (arith, d, k))));
  rest = λ q k. others q (λ e. absurd (omega (arith, e, k))) ∙ h.rest q (omega (arith, k));
} where
  others : (q : ℕ) → q ≢ n → partner_at z.list q ≡ partner_at y.list q
  others q d = ap (λ (v : Partners). partner_at v.list q) w ∙ other_at y.list n q (partner_at z.list n) d

pub ruleset booting_all = (booting_first, booting_next)

-- what is known of each of them then
links_booted : (n : ℕ) (xs : List Channel) → map end_seen (each_booted xs) ≡ each (λ c e. booted_end e) n (map end_seen xs)
links_booted n [] = refl
links_booted n (x ∷ xs) = ap (λ (es : List End). booted_end x.end ∷ es) (links_booted (n + 1) xs)

booted_seen : (x : Partner) → peer_seen (booted_anew x) ≡ booted_peer (peer_seen x)
unfolding none_going
booted_seen x = ap (λ (es : List End). record (peer_seen (booted_anew x)) { links = es }) (links_booted 0 x.channels)

pub seen_booted : (x y : Partner) → IsBootedFrom x y → peer_seen y ≡ booted_peer (peer_seen x)
seen_booted x y e = ap peer_seen e ∙ seen_rooms (booted_anew x) y ∙ booted_seen x

each_at : (d : Peer) (n : ℕ) (xs : List Peer) (i : ℕ) → get_or (each (λ q p. booted_peer p) n xs) i (booted_peer d) ≡ booted_peer (get_or xs i d)
each_at d n [] i = refl
each_at d n (x ∷ xs) zero = refl
each_at d n (x ∷ xs) (suc i) = each_at d (n + 1) xs i

each_length : (n : ℕ) (xs : List Peer) → length (each (λ q p. booted_peer p) n xs) ≡ length xs
each_length n [] = refl
each_length n (x ∷ xs) = ap (λ (k : ℕ). suc k) (each_length (n + 1) xs)

pub peers_booted : (xs ys : List Partner) → length ys ≡ length xs → ((q : ℕ) → q < length xs → IsBootedFrom (partner_at xs q) (partner_at ys q))
    → map peer_seen ys ≡ each (λ q p. booted_peer p) 0 (map peer_seen xs)
peers_booted xs ys l h =
    let d : Peer = booted_peer (peer_seen no_partner) in
    ext_get_or d (map peer_seen ys) (each (λ q p. booted_peer p) 0 (map peer_seen xs))
    (length-map ys peer_seen ∙ l ∙ sym (length-map xs peer_seen) ∙ sym (each_length 0 (map peer_seen xs)))
    (λ i k. let j : i < length ys = subst (λ (n : ℕ). i < n) (length-map ys peer_seen) k in
    map_at peer_seen ys i no_partner d j
    ∙ seen_booted (partner_at xs i) (partner_at ys i) (h i (subst (λ (n : ℕ). i < n) l j))
    ∙ ap booted_peer (sym (get_or-map peer_seen xs i no_partner))
    ∙ sym (each_at (peer_seen no_partner) 0 (map peer_seen xs) i))

-- nothing was sent, and there is no contact: no room is needed
shake_at : (n : ℕ) (xs : List Channel) (c : ℕ) → (channel_at (each_booted xs) c).end.shake ≡ no_shake
shake_at n [] c = refl
shake_at n (x ∷ xs) zero = refl
shake_at n (x ∷ xs) (suc c) = shake_at n xs c

end_at_of : (xs : List Channel) (c : ℕ) → (channel_at xs c).end ≡ get_or (map end_seen xs) c idle_end
end_at_of xs c = sym (get_or-map end_seen xs c (new_channel 0 0 0))

shake_now : (x y : Partner) (c : ℕ) → IsBootedFrom x y → (channel_at y.channels c).end.shake ≡ no_shake
shake_now x y c e =
    ap (λ (z : End). z.shake) (end_at_of y.channels c
    ∙ ap (λ (p : Peer). get_or p.links c idle_end) (ap peer_seen e ∙ seen_rooms (booted_anew x) y)
    ∙ sym (end_at_of (each_booted x.channels) c))
    ∙ shake_at 0 x.channels c

quiet : (z : Channel) → z.end.shake ≡ no_shake → HasTurnRoom z
quiet z e =
    let none : needs_sides z.end ≡ false = ap (λ (k : Shake). k.sent.open_complete || k.sent.open_reply) e in
    record {
      ready = λ h. absurd (true≢false (sym h ∙ none));
      calls = λ h. absurd (true≢false (sym h ∙ none));
      ends = λ h. absurd (true≢false (sym h ∙ none));
      next = λ h. absurd (true≢false (sym (subst (λ (o : Option Contact). IsSome o) (ap (λ (k : Shake). k.meet) e) h)));
    }

pub rooms_booted : (x y : Partner) → IsBootedFrom x y → HaveTurnRoom y
rooms_booted x y e = λ c l. quiet (channel_at y.channels c) (shake_now x y c e)
