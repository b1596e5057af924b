-- The notices that a partition gives at an end, and what the records of the end's connections have
-- of them.
use Rattle.std.specs.Prelude.{◌≡◌, ℕ, ◌<◌, true, if◌then◌else◌, is_some, nat_eq, List, [], ◌∷◌, ◌++◌, ◌⊎◌}
use Rattle.std.specs.List.{Contains}
use Rattle.xp_base.specs.History.{Act, Begun, Answered, Noticed, NoticeKind, Delivered, Ended, Turn, Event, Turned, turns_of}
use Rattle.xp_script.specs.declared.scenario.Scenario.{Scenario}
use Rattle.xp_protocol.specs.Records.{Recorded}
use Rattle.xp_protocol.specs.Promised.{IsLine, IsRecord, records_of, other, acked_of}

-- the numbers of the notices of one kind that are given at the end for partner q and channel c, in
-- their order
abbrev pub if_kind : NoticeKind → NoticeKind → ℕ → List ℕ
if_kind Delivered Delivered number = number ∷ []
if_kind Ended Ended number = number ∷ []
if_kind how kind number = []

abbrev pub notice_in : NoticeKind → ℕ → ℕ → Act → List ℕ
notice_in how q c Begun = []
notice_in how q c Answered = []
notice_in how q c (Noticed partner channel number kind) =
    if nat_eq partner q then (if nat_eq channel c then if_kind how kind number else []) else []

abbrev pub notices_in : NoticeKind → ℕ → ℕ → List Act → List ℕ
notices_in how q c [] = []
notices_in how q c (a ∷ more) = notice_in how q c a ++ notices_in how q c more

abbrev pub notices_turn : NoticeKind → ℕ → ℕ → Turn → List ℕ
notices_turn how q c t = notices_in how q c t.before ++ notices_in how q c t.after

abbrev pub notices_of : NoticeKind → ℕ → ℕ → List Turn → List ℕ
notices_of how q c [] = []
notices_of how q c (t ∷ ts) = notices_turn how q c t ++ notices_of how q c ts

-- the numbers that records have as told, those of the first connection first
abbrev pub told_as : NoticeKind → Recorded → List ℕ
told_as Delivered r = r.delivered
told_as Ended r = r.ended

abbrev pub all_told : NoticeKind → List Recorded → List ℕ
all_told how [] = []
all_told how (r ∷ rs) = all_told how rs ++ told_as how r

-- each notice is one number of a record and each of these numbers one notice, in the same order;
-- each turn adds to the records exactly the notices that are given in it; and the end of a
-- connection is told only with its reason
pub record NoticesRecorded (s : Scenario) (h : List Event) : Type 0 where
  pub noticed : (p q c : ℕ) → IsLine s p q c → (how : NoticeKind) →
      all_told how (records_of s h p q c) ≡ notices_of how q c (turns_of p h)
  pub added : (p q c : ℕ) → IsLine s p q c → (how : NoticeKind) (before : List Event) (t : Turn) →
      h ≡ before ++ Turned p t ∷ [] →
      all_told how (records_of s h p q c)
      ≡ all_told how (records_of s before p q c) ++ notices_turn how q c t
  pub over : (p q c : ℕ) → IsLine s p q c → (r : Recorded) → IsRecord s h p q c r →
      (r.ended ≡ []) ⊎ (is_some r.over ≡ true)

-- a number is told as delivered only once the partner has acknowledged it, in each connection that
-- ever was
abbrev pub DeliveredAcknowledged : Scenario → List Event → Type 0
DeliveredAcknowledged s h =
    (p q c k : ℕ) → IsLine s p q c → (r : Recorded) → IsRecord s h p q c r →
    Contains r.delivered k → k < acked_of (other s h p q c r)
