-- All laws of every history, gathered.
use Rattle.std.proofs.Common.{List}
use Rattle.xp_base.specs.History.{Event}
use Rattle.xp_base.specs.Memory.{Memory}
use Rattle.xp_script.specs.declared.scenario.Scenario.{Scenario}
use Rattle.xp_script.specs.Lawful.{IsLawful}
use Rattle.xp_protocol.specs.Reached.{ReachedWords}
use Rattle.xp_promises.proofs.Guard.{guarded_kept}
use Rattle.xp_promises.proofs.Headline.{kept, none_refused}
use Rattle.xp_promises.proofs.NoticesKept.{notices_kept}
use Rattle.xp_promises.proofs.Reuses.{reuse_kept}
use Rattle.xp_records.specs.Promises.{Promises}
use Rattle.xp_records.proofs.Acknowledged.{all_acked}
use Rattle.xp_records.proofs.Answered.{all_answered}
use Rattle.xp_records.proofs.Cleaned.{look_clean, reason_clean, end_clean, over_clean}
use Rattle.xp_records.proofs.Logs.{answers_clean}
use Rattle.xp_records.proofs.Missed.{all_missed}
use Rattle.xp_records.proofs.Named.{names_once}
use Rattle.xp_records.proofs.Recorded.{all_recorded}
use Rattle.xp_records.proofs.Stamps.{BootsFew, none_halts}

pub all_promised : ((s : Scenario) → IsLawful s → BootsFew s) → (s : Scenario) → IsLawful s → (h : List Event) (m : Memory) → ReachedWords s h m → Promises s h m
all_promised few s law h m r =
    let names = kept s law h m r in
    record {
      taken_as_accepted = names.names;
      recorded_as_accepted = names.records;
      names_once = names_once s law h m r;
      entries_reused = reuse_kept s law h m r;
      memory_guarded = guarded_kept s law h m r;
      sends_answered = all_answered s law h m r;
      notices_told = notices_kept s law h m r;
      notices_recorded = all_recorded s law h m r;
      delivered_acknowledged = all_acked s law h m r;
      nothing_refused = none_refused s law h m r;
      clean = record {
        looks = λ p q lp lq. look_clean s law h m r p q lp lq;
        partners = λ p q c l. reason_clean s law h m r p q c l;
        ends = λ p q c l. end_clean s law h m r p q c l;
        records = λ p q c l x is. over_clean s law h m r p q c l x is;
        answers = λ p l x c answer e. answers_clean s law h m r p l x c answer e;
        none_halts = none_halts s law (few s law) h m r;
      };
      heartbeats_missed = all_missed s h m r;
    }
