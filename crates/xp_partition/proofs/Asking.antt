-- What is asked of a partition is read from what it keeps.
use Rattle.std.proofs.Common.{◌≡◌, ℕ, ◌+◌, ◌<◌, Bool, true, false, List, map, refl, ap, sym, ◌∙◌, Option, Some, None}
use Rattle.std.specs.Prelude.{slice_get, if◌then◌else◌}
use Rattle.std.proofs.Math.ListN.{get_or-map}
use Rattle.std.proofs.lemmas.Option.{get_or_from_slice_get}
use Rattle.xp_script.specs.declared.command.Command.{Command}
use Rattle.xp_protocol.specs.declared.rule.LinkRule.{LinkRule}
use Rattle.xp_protocol.specs.declared.rule.PeerRule.{PeerRule}
use Rattle.xp_protocol.specs.State.{End, Peer, peer_of, end_of, peer_at, link_at}
use Rattle.xp_protocol.specs.Rules.{here_of}
use Rattle.xp_plan.specs.EndSteps.{signal_at, counters_at}
use Rattle.xp_plan.specs.PeerSteps.{check_at, engage_at, prepare_at, for_peer}
use Rattle.xp_plan.specs.Plan.{is_joined, link_rule, link_asked, command_step}
use Rattle.xp_channel.specs.Channel.{Channel, new_channel}
use Rattle.xp_engage.specs.Partner.{here}
use Rattle.xp_partner.specs.Partner.{Partner, peer_seen, end_seen, channel_at, channel_of}
use Rattle.xp_partner.specs.Planned.{for_joined}
use Rattle.xp_partition.specs.declared.keeping.Keeping.{Keeping}
use Rattle.xp_partition.specs.Partners.{no_partner, partner_at}
use Rattle.xp_partition.specs.Keeping.{state_of, IsKept}
use Rattle.xp_partition.proofs.Opened.{seen_at}
use Rattle.xp_partition.proofs.Lists.{past_get}

pub peer_is : (x : Keeping) (q : ℕ) → peer_seen (partner_at x.partners.list q) ≡ peer_of (state_of x) q
peer_is x q = sym (seen_at x.partners.list q)

end_seen_at : (xs : List Channel) (c : ℕ) → link_at (map end_seen xs) c ≡ (channel_at xs c).end
end_seen_at xs c = get_or-map end_seen xs c (new_channel 0 0 0)

pub end_is : (x : Keeping) (q c : ℕ) → (channel_of (partner_at x.partners.list q) c).end ≡ end_of (state_of x) q c
end_is x q c = sym (end_seen_at (partner_at x.partners.list q).channels c) ∙ ap (λ (p : Peer). link_at p.links c) (peer_is x q)

joined_rule : (b : Bool) (q c : ℕ) (m : Option LinkRule) → link_rule q c (if b then m else None) ≡ (if b then link_rule q c m else None)
joined_rule true q c m = refl
joined_rule false q c m = refl

-- a step at an end, of whatever the end asks
pub link_is : (x : Keeping) (q c : ℕ) (f : End → Option LinkRule) → link_rule q c (for_joined (peer_seen (partner_at x.partners.list q)) (f (channel_of (partner_at x.partners.list q) c).end)) ≡ link_asked (state_of x) q c (f (end_of (state_of x) q c))
link_is x q c f =
    joined_rule (is_joined (peer_seen (partner_at x.partners.list q))) q c (f (channel_of (partner_at x.partners.list q) c).end)
    ∙ ap (λ (p : Peer). if is_joined p then link_rule q c (f (channel_of (partner_at x.partners.list q) c).end) else None) (peer_is x q)
    ∙ ap (λ (e : End). link_asked (state_of x) q c (f e)) (end_is x q c)

pub signal_is : (x : Keeping) (q c used : ℕ) → link_rule q c (for_joined (peer_seen (partner_at x.partners.list q)) (signal_at used (channel_of (partner_at x.partners.list q) c).end)) ≡ link_asked (state_of x) q c (signal_at used (end_of (state_of x) q c))
signal_is x q c used = link_is x q c (signal_at used)

pub counters_is : (x : Keeping) (q c used : ℕ) → link_rule q c (for_joined (peer_seen (partner_at x.partners.list q)) (counters_at used (channel_of (partner_at x.partners.list q) c).end)) ≡ link_asked (state_of x) q c (counters_at used (end_of (state_of x) q c))
counters_is x q c used = link_is x q c (counters_at used)

-- a step for a partner, of whatever the partner asks
pub step_is : (x : Keeping) (q : ℕ) (f : Peer → Option PeerRule) → for_peer q (f (peer_seen (partner_at x.partners.list q))) ≡ for_peer q (f (peer_of (state_of x) q))
step_is x q f = ap (λ (p : Peer). for_peer q (f p)) (peer_is x q)

pub prepare_is : (x : Keeping) (q : ℕ) → IsKept x → q < x.part.count → prepare_at (partner_at x.partners.list q).standing.masked (partner_at x.partners.list q).standing.partner (peer_seen (partner_at x.partners.list q)) ≡ prepare_at (here_of x.part (state_of x) q).masked q (peer_of (state_of x) q)
prepare_is x q h l =
    let k = h.standing q l in
    ap (λ (b : Bool). prepare_at b (partner_at x.partners.list q).standing.partner (peer_seen (partner_at x.partners.list q))) k.masked
    ∙ ap (λ (n : ℕ). prepare_at (here_of x.part (state_of x) q).masked n (peer_seen (partner_at x.partners.list q))) k.partner
    ∙ ap (prepare_at (here_of x.part (state_of x) q).masked q) (peer_is x q)

pub engage_is : (x : Keeping) (q : ℕ) → IsKept x → q < x.part.count → for_peer q (engage_at (here (x.clock.turns + 1) (partner_at x.partners.list q).standing) (peer_seen (partner_at x.partners.list q))) ≡ for_peer q (engage_at (here_of x.part (state_of x) q) (peer_of (state_of x) q))
engage_is x q h l =
    let k = h.standing q l in
    let p = partner_at x.partners.list q in
    ap (λ (n : ℕ). for_peer q (engage_at (record (here (x.clock.turns + 1) p.standing) { wait = n }) (peer_seen p))) k.wait
    ∙ ap (λ (y : Peer). for_peer q (engage_at (here_of x.part (state_of x) q) y)) (peer_is x q)

pub check_is : (x : Keeping) (q used : ℕ) → IsKept x → q < x.part.count → for_peer q (check_at (here (x.clock.turns + 1) (partner_at x.partners.list q).standing) used (peer_seen (partner_at x.partners.list q))) ≡ for_peer q (check_at (here_of x.part (state_of x) q) used (peer_of (state_of x) q))
check_is x q used h l =
    let k = h.standing q l in
    let p = partner_at x.partners.list q in
    ap (λ (n : ℕ). for_peer q (check_at (record (here (x.clock.turns + 1) p.standing) { check = n }) used (peer_seen p))) k.checked
    ∙ ap (λ (y : Peer). for_peer q (check_at (here_of x.part (state_of x) q) used y)) (peer_is x q)

-- a command's step, where there is such a partner or not
pub command_some : (x : Keeping) (q c used : ℕ) (m : Command) (p : Partner) → slice_get x.partners.list q ≡ Some p
    → link_rule q c (for_joined (peer_seen p) (command_step used (channel_of p c).end m)) ≡ link_asked (state_of x) q c (command_step used (end_of (state_of x) q c) m)
command_some x q c used m p h =
    ap (λ (y : Partner). link_rule q c (for_joined (peer_seen y) (command_step used (channel_of y c).end m))) (sym (get_or_from_slice_get x.partners.list q p no_partner h))
    ∙ link_is x q c (λ (e : End). command_step used e m)

past_peer : (xs : List Partner) (q : ℕ) → slice_get xs q ≡ None → peer_at (map peer_seen xs) q ≡ peer_seen no_partner
past_peer xs q h = seen_at xs q ∙ ap peer_seen (past_get xs q no_partner h)

pub command_none : (x : Keeping) (q c : ℕ) (m : Option LinkRule) → slice_get x.partners.list q ≡ None → link_asked (state_of x) q c m ≡ None
command_none x q c m h = ap (λ (p : Peer). if is_joined p then link_rule q c m else None) (past_peer x.partners.list q h)

-- other commands make no step
unasked : (b : Bool) (q c : ℕ) → (if b then link_rule q c None else None) ≡ None
unasked true q c = refl
unasked false q c = refl

pub command_other : (x : Keeping) (q c : ℕ) → link_asked (state_of x) q c None ≡ None
command_other x q c = unasked (is_joined (peer_of (state_of x) q)) q c

pub ruleset seen = (peer_is)

pub ruleset stepping = (peer_is, signal_is, counters_is, step_is, prepare_is, engage_is, check_is)

pub ruleset commanding = (command_some, command_none, command_other)
