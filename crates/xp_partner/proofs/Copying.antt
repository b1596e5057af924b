-- Whether a copy of a partner's words goes on, and whether anything is owed, end by end.
use Rattle.std.proofs.Common.{◌≡◌, ℕ, Bool, true, false, List, [], ◌∷◌, length, Option, Some, None, refl, ap, sym, ◌∙◌, map}
use Rattle.std.specs.Prelude.{is_some, not, ◌&&◌, ◌||◌, if◌then◌else◌, nat_lt}
use Rattle.xp_protocol.specs.declared.rule.PeerRule.{PeerRule}
use Rattle.xp_protocol.specs.declared.rule.PeerRule.TheVariants.{CloseArea, ClearEngagementBit, TellPartner}
use Rattle.xp_protocol.specs.State.{Engage, Area, Old, Off, Ready, Leaving, idle_links}
use Rattle.xp_protocol.specs.Peering.{copies_go_on, any_copied, is_copied, waits, any_waits}
use Rattle.xp_protocol.specs.Runs.{owes, any_owes}
use Rattle.xp_plan.specs.EndSteps.{step_if}
use Rattle.xp_plan.specs.PeerSteps.{answer_at, leave_at, leave_by, is_open_to, echo_step}
use Rattle.xp_engage.specs.Partner.{alone_by}
use Rattle.xp_channel.specs.Channel.{Channel}
use Rattle.xp_partner.specs.Partner.{Partner, peer_seen, channel_at, end_seen}
use Rattle.xp_partner.specs.Planned.{other_copies}
use Rattle.xp_partner.proofs.Four.{four_of}

alone_copies : (r b : Bool) → (r || (nat_lt 0 (length {A = ℕ} (if b then 0 ∷ [] else [])) || any_copied idle_links)) ≡ (r || b)
unfolding idle_links
alone_copies true b = refl
alone_copies false true = refl
alone_copies false false = refl

copies_alone : (x : Partner) → copies_go_on (alone_by (other_copies x) x.standing) ≡ copies_go_on (peer_seen x)
copies_alone x = alone_copies (is_some x.standing.engage.reading) (other_copies x)

pub answer_alone : (x : Partner) → answer_at (alone_by (other_copies x) x.standing) ≡ answer_at (peer_seen x)
answer_alone x = ap (λ (c : Bool). if is_open_to x.standing.engage then
    (if (x.standing.engage.bit && x.standing.engage.back_off) && (not (is_some x.standing.engage.echo) && not c) then Some ClearEngagementBit else echo_step x.standing.engage) else None) (copies_alone x)

abbrev leave_with : Area → Engage → Bool → Option PeerRule
leave_with Old e c = None
leave_with Off e c = None
leave_with Ready e c = step_if (is_some e.reason) CloseArea
leave_with Leaving e c = if e.bit then (if e.told then step_if (not c) ClearEngagementBit else Some TellPartner) else None

leave_same : (a : Area) (b : Bool) (x : Partner) → leave_by a (alone_by b x.standing) ≡ leave_with a x.standing.engage (copies_go_on (alone_by b x.standing))
leave_same Old b x = refl
leave_same Off b x = refl
leave_same Ready b x = refl
leave_same Leaving b x = refl

leave_seen : (a : Area) (x : Partner) → leave_by a (peer_seen x) ≡ leave_with a x.standing.engage (copies_go_on (peer_seen x))
leave_seen Old x = refl
leave_seen Off x = refl
leave_seen Ready x = refl
leave_seen Leaving x = refl

pub leave_alone : (x : Partner) → leave_at (alone_by (other_copies x) x.standing) ≡ leave_at (peer_seen x)
leave_alone x =
    leave_same x.standing.engage.area (other_copies x) x
    ∙ ap (leave_with x.standing.engage.area x.standing.engage) (copies_alone x)
    ∙ sym (leave_seen x.standing.engage.area x)

-- of four ends
or_false : (b : Bool) → (b || false) ≡ b
or_false true = refl
or_false false = refl

pub copied_four : (xs : List Channel) → length xs ≡ 4 → any_copied (map end_seen xs) ≡ (is_copied (channel_at xs 0).end || (is_copied (channel_at xs 1).end || (is_copied (channel_at xs 2).end || is_copied (channel_at xs 3).end)))
copied_four xs h = four_of (λ (ys : List Channel). any_copied (map end_seen ys) ≡ (is_copied (channel_at ys 0).end || (is_copied (channel_at ys 1).end || (is_copied (channel_at ys 2).end || is_copied (channel_at ys 3).end))))
    (λ a b c d. ap (λ (z : Bool). is_copied a.end || (is_copied b.end || (is_copied c.end || z))) (or_false (is_copied d.end))) xs h

pub owes_four : (xs : List Channel) → length xs ≡ 4 → any_owes (map end_seen xs) ≡ (owes (channel_at xs 0).end || (owes (channel_at xs 1).end || (owes (channel_at xs 2).end || owes (channel_at xs 3).end)))
owes_four xs h = four_of (λ (ys : List Channel). any_owes (map end_seen ys) ≡ (owes (channel_at ys 0).end || (owes (channel_at ys 1).end || (owes (channel_at ys 2).end || owes (channel_at ys 3).end))))
    (λ a b c d. ap (λ (z : Bool). owes a.end || (owes b.end || (owes c.end || z))) (or_false (owes d.end))) xs h

pub waits_four : (xs : List Channel) → length xs ≡ 4 → any_waits (map end_seen xs) ≡ (waits (channel_at xs 0).end || (waits (channel_at xs 1).end || (waits (channel_at xs 2).end || waits (channel_at xs 3).end)))
waits_four xs h = four_of (λ (ys : List Channel). any_waits (map end_seen ys) ≡ (waits (channel_at ys 0).end || (waits (channel_at ys 1).end || (waits (channel_at ys 2).end || waits (channel_at ys 3).end))))
    (λ a b c d. ap (λ (z : Bool). waits a.end || (waits b.end || (waits c.end || z))) (or_false (waits d.end))) xs h
