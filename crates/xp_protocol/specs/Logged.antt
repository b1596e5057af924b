-- What a partition has logged and recorded after its turns: its commands with their answers, and
-- the connections of each end, the newest first.
use Rattle.std.specs.Prelude.{ℕ, ◌+◌, Bool, ◌&&◌, if◌then◌else◌, nat_eq, List, [], ◌∷◌, ◌++◌, Option, Some, None}
use Rattle.xp_base.specs.History.{Act, Begun, Answered, Noticed, Marked, Turn}
use Rattle.xp_script.specs.declared.command.Command.{Command}
use Rattle.xp_script.specs.declared.log.LogAnswer.{LogAnswer}
use Rattle.xp_script.specs.Commands.{verb_of}
use Rattle.xp_script.specs.declared.log.Entry.{Entry}
use Rattle.xp_base.specs.declared.step.Answer.{Answer}
use Rattle.xp_protocol.specs.declared.rule.Rule.{Rule}
use Rattle.xp_script.specs.declared.part.Link.{Link}
use Rattle.xp_script.specs.declared.part.ScenarioPart.{ScenarioPart}
use Rattle.xp_protocol.specs.Effects.{Note, with_notes}
use Rattle.xp_protocol.specs.State.{State}
use Rattle.xp_protocol.specs.Rules.{noted_rule}
use Rattle.xp_protocol.specs.Decode.{rule_of}
use Rattle.xp_protocol.specs.Acts.{upcoming, due, noted_act, after_act, after_acts}
use Rattle.xp_protocol.specs.Runs.{start, after_step, after_turn}
use Rattle.xp_protocol.specs.Records.{Recorded, opened_record}

-- the entry of a command, the number-th from 1 of a boot's script
abbrev pub begun_entry : ℕ → ℕ → Option Command → List Entry
begun_entry boot number None = []
begun_entry boot number (Some x) =
    record { boot = boot; number = number; verb = verb_of x; answer = None } ∷ []

-- the last entry is answered
abbrev pub last_answered : List Entry → Option LogAnswer → List Entry
last_answered [] a = []
last_answered (x ∷ []) a = record x { answer = a } ∷ []
last_answered (x ∷ y ∷ more) a = x ∷ last_answered (y ∷ more) a

abbrev pub entries_act : ScenarioPart → State → Act → List Entry → List Entry
entries_act s st Begun xs = xs ++ begun_entry st.clock.boots (st.script.begun + 1) (upcoming s st)
entries_act s st Answered xs = last_answered xs (due s st)
entries_act s st (Noticed q c number how) xs = xs

abbrev pub entries_acts : ScenarioPart → State → List Act → List Entry → List Entry
entries_acts s st [] xs = xs
entries_acts s st (a ∷ more) xs = entries_acts s (after_act s st a) more (entries_act s st a xs)

abbrev pub entries_turn : ScenarioPart → State → Turn → List Entry → List Entry
entries_turn s st t xs =
    entries_acts s (after_step s (after_acts s st t.before) t.made) t.after
    (entries_acts s st t.before xs)

abbrev pub entries_from : ScenarioPart → State → List Turn → List Entry → List Entry
entries_from s st [] xs = xs
entries_from s st (t ∷ ts) xs = entries_from s (after_turn s st t) ts (entries_turn s st t xs)

-- the records of the end for partner q and channel c: what is noted there
abbrev pub noted_ruled : ScenarioPart → State → Option Rule → Answer → ℕ → ℕ → List Note
noted_ruled s st None a q c = []
noted_ruled s st (Some r) a q c = noted_rule s st r a q c

abbrev pub noted_step : ScenarioPart → State → Option Marked → ℕ → ℕ → List Note
noted_step s st None q c = []
noted_step s st (Some x) q c = noted_ruled s st (rule_of s st x.step.op x.mark) x.step.answer q c

abbrev pub noted_acts : ScenarioPart → State → List Act → ℕ → ℕ → List Note
noted_acts s st [] q c = []
noted_acts s st (a ∷ more) q c = noted_act s st a q c ++ noted_acts s (after_act s st a) more q c

abbrev pub noted_turn : ScenarioPart → State → Turn → ℕ → ℕ → List Note
noted_turn s st t q c =
    noted_acts s st t.before q c
    ++ (noted_step s (after_acts s st t.before) t.made q c
    ++ noted_acts s (after_step s (after_acts s st t.before) t.made) t.after q c)

abbrev pub noted_from : ScenarioPart → State → List Turn → ℕ → ℕ → List Note
noted_from s st [] q c = []
noted_from s st (t ∷ ts) q c = noted_turn s st t q c ++ noted_from s (after_turn s st t) ts q c

-- the records of the opening: a link's is that of its partner and channel
abbrev pub is_at : Link → ℕ → ℕ → Bool
is_at l q c = nat_eq l.partner q && nat_eq l.channel c

abbrev pub opened_records : List Link → ℕ → ℕ → List Recorded
opened_records [] q c = []
opened_records (l ∷ ls) q c = if is_at l q c then opened_record l ∷ [] else opened_records ls q c

abbrev pub records_after : ScenarioPart → List Turn → ℕ → ℕ → List Recorded
records_after s ts q c = with_notes q c (noted_from s (start s) ts q c) (opened_records s.links q c)
