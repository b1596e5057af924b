-- A call at one end of a partner keeps the room at each of them, but for the note that it makes.
use Rattle.std.proofs.Common.{◌≡◌, ℕ, ◌+◌, ◌<◌, ◌≤◌, List, length, sym, subst, set, get_or}
use Rattle.std.proofs.lemmas.List.{get_or_default}
use Rattle.xp_base.specs.declared.layout.TheConstants.{CHANNELS}
use Rattle.xp_protocol.specs.Effects.{Effect, Note}
use Rattle.xp_protocol.specs.State.{End}
use Rattle.xp_channel.specs.Channel.{Channel, new_channel, kept, called}
use Rattle.xp_partner.specs.Partner.{Partner, channel_at}
use Rattle.xp_partner.specs.Room.{HasNotes, HasNotesLeft, HaveNotes, HaveNotesLeft}
use Rattle.xp_partner.proofs.Channels.{each_set, fewer_notes, fewer_left, called_notes, called_left, kept_notes, kept_left}

within : (xs : List Channel) (i : ℕ) → length xs ≡ CHANNELS → i < CHANNELS → i < length xs
within xs i h l = subst (λ (n : ℕ). i < n) (sym h) l

at_of : (xs : List Channel) (i : ℕ) (d : Channel) → i < length xs → channel_at xs i ≡ get_or xs i d
at_of xs i d l = get_or_default xs i (new_channel 0 0 0) d l

pub acted_notes : (n : ℕ) (f : Effect End (List Note)) (v : Partner) (i : ℕ) (d z : Channel) → i < CHANNELS → length v.channels ≡ CHANNELS → z ≡ called (kept f (get_or v.channels i d)) z → (get_or v.channels i d).room.calls ≤ z.room.calls + 1 → z.end.shake.sent ≡ (get_or v.channels i d).end.shake.sent → z.end.shake.meet ≡ (get_or v.channels i d).end.shake.meet → HaveNotes (n + 1) v → HaveNotes n (record v { channels = set v.channels i z })
acted_notes n f v i d z l h e c s m k =
    each_set (λ m y. HasNotes n y) v.channels i z (within v.channels i h l) (λ m j. fewer_notes n (channel_at v.channels m) (k m j))
    (called_notes n f (get_or v.channels i d) z e c s m (subst (HasNotes (n + 1)) (at_of v.channels i d (within v.channels i h l)) (k i l)))

pub acted_left : (n : ℕ) (f : Effect End (List Note)) (v : Partner) (i : ℕ) (d z : Channel) → i < CHANNELS → length v.channels ≡ CHANNELS → z ≡ called (kept f (get_or v.channels i d)) z → (get_or v.channels i d).room.calls ≤ z.room.calls + 1 → z.end.shake.sent ≡ (get_or v.channels i d).end.shake.sent → HaveNotesLeft (n + 1) v → HaveNotesLeft n (record v { channels = set v.channels i z })
acted_left n f v i d z l h e c s k =
    each_set (λ m y. HasNotesLeft n y) v.channels i z (within v.channels i h l) (λ m j. fewer_left n (channel_at v.channels m) (k m j))
    (called_left n f (get_or v.channels i d) z e c s (subst (HasNotesLeft (n + 1)) (at_of v.channels i d (within v.channels i h l)) (k i l)))

pub noticed_notes : (n : ℕ) (f : Effect End (List Note)) (v : Partner) (i : ℕ) (d z : Channel) → i < CHANNELS → length v.channels ≡ CHANNELS → z ≡ kept f (get_or v.channels i d) → z.end.shake.sent ≡ (get_or v.channels i d).end.shake.sent → z.end.shake.meet ≡ (get_or v.channels i d).end.shake.meet → HaveNotes n v → HaveNotes n (record v { channels = set v.channels i z })
noticed_notes n f v i d z l h e s m k =
    each_set (λ m y. HasNotes n y) v.channels i z (within v.channels i h l) k
    (kept_notes n f (get_or v.channels i d) z e s m (subst (HasNotes n) (at_of v.channels i d (within v.channels i h l)) (k i l)))

pub noticed_left : (n : ℕ) (f : Effect End (List Note)) (v : Partner) (i : ℕ) (d z : Channel) → i < CHANNELS → length v.channels ≡ CHANNELS → z ≡ kept f (get_or v.channels i d) → z.end.shake.sent ≡ (get_or v.channels i d).end.shake.sent → HaveNotesLeft n v → HaveNotesLeft n (record v { channels = set v.channels i z })
noticed_left n f v i d z l h e s k =
    each_set (λ m y. HasNotesLeft n y) v.channels i z (within v.channels i h l) k
    (kept_left n f (get_or v.channels i d) z e s (subst (HasNotesLeft n) (at_of v.channels i d (within v.channels i h l)) (k i l)))
