-- What a partition tells a partner changes how it stands to it alone, unless the own memory becomes
-- free.
use Rattle.std.proofs.Common.{◌≡◌, ℕ, Bool, true, false, List, [], length, Some, None, refl, ap, sym, ◌∙◌, subst}
use Rattle.std.specs.Prelude.{is_some, ◌&&◌, if◌then◌else◌}
use Rattle.xp_protocol.specs.State.{Peer}
use Rattle.xp_protocol.specs.Acts.{unwanted, wanted_again}
use Rattle.xp_base.specs.declared.reason.Reason.TheVariants.{OtherGoingDown}
use Rattle.xp_protocol.specs.Linking.{link_finished}
use Rattle.xp_protocol.specs.Peering.{deactivation_heard, peer_read, area_off, freed_engage, same_peer, is_flagged, with_reason}
use Rattle.xp_channel.specs.Channel.{Channel}
use Rattle.xp_engage.specs.Partner.{alone, seen_in}
use Rattle.xp_engage.specs.Learning.{wanted_as, heard, engaged_by, is_freed}
use Rattle.xp_partner.specs.Partner.{Partner, peer_seen, each_kept}
use Rattle.xp_partner.specs.Making.{after_effect, known_as}
use Rattle.xp_partner.proofs.Four.{four_of}
use Rattle.xp_partner.proofs.Making.{with_none, own_rooms, unchanged}

pub unwanted_made : (x : Partner) → length x.channels ≡ 4 → record x { standing = wanted_as false x.standing } ≡ known_as (unwanted (peer_seen x)) (λ c. []) x
unwanted_made x h = four_of (λ (xs : List Channel). record x { standing = wanted_as false x.standing; channels = xs } ≡ known_as (unwanted (peer_seen (record x { channels = xs }))) (λ c. []) (record x { channels = xs })) (λ a b c d. refl) x.channels h

pub wanted_made : (x : Partner) → length x.channels ≡ 4 → record x { standing = wanted_as true x.standing } ≡ known_as (wanted_again (peer_seen x)) (λ c. []) x
wanted_made x h = four_of (λ (xs : List Channel). record x { standing = wanted_as true x.standing; channels = xs } ≡ known_as (wanted_again (peer_seen (record x { channels = xs }))) (λ c. []) (record x { channels = xs })) (λ a b c d. refl) x.channels h

-- the standing of another partner, all else being as it was
lifted_known : (x : Partner) (p : Peer) → length x.channels ≡ 4 → p ≡ record (peer_seen x) { wanted = p.wanted; look = p.look; both_new = p.both_new; flags_seen = p.flags_seen; engage = p.engage; contact = p.contact; watch = p.watch } → record x { standing = seen_in x.standing p } ≡ after_effect (same_peer p) x
lifted_known x p h e =
    four_of (λ (xs : List Channel). record x { standing = seen_in x.standing p; channels = xs } ≡ known_as (record (peer_seen (record x { channels = xs })) { wanted = p.wanted; look = p.look; both_new = p.both_new; flags_seen = p.flags_seen; engage = p.engage; contact = p.contact; watch = p.watch }) (λ c. []) (record x { channels = xs })) (λ a b c d. refl) x.channels h
    ∙ ap (λ (q : Peer). known_as q (λ c. []) x) (sym e)
    ∙ ap (λ (q : Peer). known_as q (λ c. []) x) (sym (with_none p))

pub heard_made : (w : ℕ) (x : Partner) → length x.channels ≡ 4 → record x { standing = heard w x.standing } ≡ after_effect (deactivation_heard w x.standing.partner (peer_seen x)) x
heard_made w x h = by (is_some x.standing.engage.echo && is_flagged w x.standing.partner) where
  by : (b : Bool) → record x { standing = seen_in x.standing (if b then with_reason (Some (OtherGoingDown w)) (alone x.standing) else alone x.standing) } ≡ after_effect (same_peer (if b then with_reason (Some (OtherGoingDown w)) (peer_seen x) else peer_seen x)) x
  by true = lifted_known x (with_reason (Some (OtherGoingDown w)) (peer_seen x)) h refl
  by false = lifted_known x (peer_seen x) h refl

-- the own memory is free, or isn't
freed_known : (x : Partner) → length x.channels ≡ 4 → record x { standing = record x.standing { engage = freed_engage x.standing.engage; contact = None }; channels = each_kept (λ c e. link_finished e) 0 x.channels } ≡ known_as (area_off (peer_seen x)).local (area_off (peer_seen x)).notes x
freed_known x h = four_of (λ (xs : List Channel). record x { standing = record x.standing { engage = freed_engage x.standing.engage; contact = None }; channels = each_kept (λ c e. link_finished e) 0 xs } ≡ known_as (area_off (peer_seen (record x { channels = xs }))).local (area_off (peer_seen (record x { channels = xs }))).notes (record x { channels = xs })) (λ a b c d. refl) x.channels h

pub freed_made : (w : ℕ) (x : Partner) → length x.channels ≡ 4 → is_freed w x.standing ≡ true → record x { standing = engaged_by w x.standing; channels = each_kept (λ c e. link_finished e) 0 x.channels } ≡ after_effect (peer_read w x.standing.partner (peer_seen x)) x
freed_made w x h f =
    subst (λ (b : Bool). record x { standing = seen_in x.standing (if b then area_off (alone x.standing) else same_peer (alone x.standing)).local; channels = each_kept (λ c e. link_finished e) 0 x.channels } ≡ after_effect (if b then area_off (peer_seen x) else same_peer (peer_seen x)) x) (sym f)
    (freed_known x h ∙ ap (λ (p : Peer). known_as p (area_off (peer_seen x)).notes x) (sym (with_none (area_off (peer_seen x)).local)))

pub kept_made : (w : ℕ) (x : Partner) → length x.channels ≡ 4 → is_freed w x.standing ≡ false → record x { standing = engaged_by w x.standing } ≡ after_effect (peer_read w x.standing.partner (peer_seen x)) x
kept_made w x h f =
    subst (λ (b : Bool). record x { standing = seen_in x.standing (if b then area_off (alone x.standing) else same_peer (alone x.standing)).local } ≡ after_effect (if b then area_off (peer_seen x) else same_peer (peer_seen x)) x) (sym f)
    (lifted_known x (peer_seen x) h refl)

pub ruleset engaging = (freed_made, kept_made, own_rooms)
