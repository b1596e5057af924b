-- All that is promised of every history that partitions make by the rules, in one record.
use Rattle.std.specs.Prelude.{List}
use Rattle.xp_base.specs.History.{Event}
use Rattle.xp_base.specs.Memory.{Memory}
use Rattle.xp_script.specs.declared.scenario.Scenario.{Scenario}
use Rattle.xp_protocol.specs.Promised.{Guarded, LinePrefix, NamePrefix, NothingRefused, Notices, Reuse}
use Rattle.xp_records.specs.Answers.{SendAnswers}
use Rattle.xp_records.specs.Clean.{Clean}
use Rattle.xp_records.specs.Missed.{HeartbeatsMissed}
use Rattle.xp_records.specs.Names.{NamesOnce}
use Rattle.xp_records.specs.Noticed.{DeliveredAcknowledged, NoticesRecorded}

-- what is promised of a scenario, a history, and the memory that the history leaves
pub record Promises (s : Scenario) (h : List Event) (m : Memory) : Type 0 where
  -- in each connection, by its name, the messages taken at one end are a prefix of those that the
  -- other end's sends were told were accepted; and so are those of each record of either end
  pub taken_as_accepted : NamePrefix s h
  pub recorded_as_accepted : LinePrefix s h
  -- a record is told by its name: each stands once among the records of an end
  pub names_once : NamesOnce s h
  -- an entry is rewritten only after its message was acknowledged, and a number is acknowledged
  -- only after all messages below it were taken and released
  pub entries_reused : Reuse s h
  -- no partition touches another's channel memory unless its own engagement bit stands there
  pub memory_guarded : Guarded s h
  -- each send that is answered is answered for the first cause that holds
  pub sends_answered : SendAnswers s h
  -- each number that was asked for is told once at most, as delivered or as ended, and none is late
  pub notices_told : Notices s h
  -- the records have exactly the notices that were given
  pub notices_recorded : NoticesRecorded s h
  -- a number is told as delivered only once the partner has acknowledged it
  pub delivered_acknowledged : DeliveredAcknowledged s h
  -- no magic, flag, argument, counter or entry that was read is refused
  pub nothing_refused : NothingRefused s h m
  -- no reason that refuses a word or a version stands anywhere, in no record and in no answer; and
  -- no partition halts
  pub clean : Clean s h
  -- a partner is to be deactivated for a missed heartbeat only by a check that was over in that
  -- turn, and for the words that it read
  pub heartbeats_missed : HeartbeatsMissed s h
