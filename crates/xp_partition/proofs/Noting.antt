-- The room that all partners have for notes.
use Rattle.std.proofs.Common.{ℕ, ◌<◌, ◌≤◌, List, length, set, sym, subst, arith}
use Rattle.std.proofs.lemmas.List.{length-set}
use Rattle.xp_connections.specs.declared.record.TheConstants.{TURN_ROOM}
use Rattle.xp_partner.specs.Partner.{Partner}
use Rattle.xp_partner.specs.Room.{HaveNotes, HaveNotesLeft}
use Rattle.xp_partner.proofs.Channels.{turn_notes, all_left}
use Rattle.xp_partition.specs.Partners.{Partners, partner_at, AllHaveTurnRoom, AllHaveNotes, AllHaveNotesLeft}
use Rattle.xp_partition.proofs.Roomy.{same_at, other_at, at_or}

pub all_turn_notes : (x : Partners) → AllHaveTurnRoom x → AllHaveNotes TURN_ROOM x
all_turn_notes x h = λ q l. turn_notes (partner_at x.list q) (h q l)

pub all_notes_left : (notes : ℕ) (x : Partners) → AllHaveNotes notes x → AllHaveNotesLeft notes x
all_notes_left n x h = λ q l. all_left n (partner_at x.list q) (h q l)

fewer : (n m : ℕ) (x : Partner) → n ≤ m → HaveNotes m x → HaveNotes n x
fewer n m x l h = λ c k. let r = h c k in record { ready = r.ready; calls = λ s. omega (arith, l, r.calls s); ends = r.ends; next = r.next }

fewer_left : (n m : ℕ) (x : Partner) → n ≤ m → HaveNotesLeft m x → HaveNotesLeft n x
fewer_left n m x l h = λ c k. let r = h c k in record { ready = r.ready; calls = λ s. omega (arith, l, r.calls s); ends = r.ends }

pub all_fewer : (notes more : ℕ) (x : Partners) → notes ≤ more → AllHaveNotes more x → AllHaveNotes notes x
all_fewer n m x l h = λ q k. fewer n m (partner_at x.list q) l (h q k)

pub all_fewer_left : (notes more : ℕ) (x : Partners) → notes ≤ more → AllHaveNotesLeft more x → AllHaveNotesLeft notes x
all_fewer_left n m x l h = λ q k. fewer_left n m (partner_at x.list q) l (h q k)

-- where one of them changes
changed : (P : Partner → Type 0) (xs : List Partner) (q : ℕ) (p : Partner) → q < length xs → ((i : ℕ) → i < length xs → P (partner_at xs i)) → P p → (i : ℕ) → i < length (set xs q p) → P (partner_at (set xs q p) i)
changed P xs q p l h k = at_or (λ i. i < length (set xs q p) → P (partner_at (set xs q p) i)) q
    (λ j. subst P (sym (same_at xs q p l)) k)
    (λ i d j. subst P (sym (other_at xs q i p d)) (h i (subst (λ (n : ℕ). i < n) (length-set xs q p) j)))

pub notes_changed : (notes : ℕ) (x : Partners) (q : ℕ) (p : Partner) → q < length x.list → AllHaveNotes notes x → HaveNotes notes p → AllHaveNotes notes (record x { list = set x.list q p })
notes_changed n x q p l h k = changed (HaveNotes n) x.list q p l h k

pub left_changed : (notes : ℕ) (x : Partners) (q : ℕ) (p : Partner) → q < length x.list → AllHaveNotesLeft notes x → HaveNotesLeft notes p → AllHaveNotesLeft notes (record x { list = set x.list q p })
left_changed n x q p l h k = changed (HaveNotesLeft n) x.list q p l h k

pub ruleset noting = (all_fewer, all_fewer_left, notes_changed, left_changed)
