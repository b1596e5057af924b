-- The first word of the own memory for a partner that wasn't stored.
use Rattle.std.specs.Prelude.{not, ◌*◌, if◌then◌else◌, Option, Some}
use Rattle.xp_base.specs.declared.layout.TheConstants.{CHANNELS, ARGS_WORDS, COUNTER_WORDS}
use Rattle.xp_protocol.specs.declared.rule.AreaWord.{AreaWord}
use Rattle.xp_protocol.specs.declared.rule.AreaWord.TheVariants.{SessionWord, EchoWord, FlagWord}
use Rattle.xp_plan.specs.EndSteps.{or_else}
use Rattle.xp_plan.specs.PeerSteps.{unset_from, place_word, args_word, counter_word}
use Rattle.xp_engage.specs.declared.area.StoredWords.{StoredWords}

abbrev pub words_missing_in : StoredWords → Option AreaWord
words_missing_in x =
    or_else (place_word (unset_from 3 5 x.places))
    (or_else (args_word (unset_from 0 (CHANNELS * ARGS_WORDS) x.args))
    (counter_word (unset_from 0 (CHANNELS * COUNTER_WORDS) x.counters)))

abbrev pub missing_in : StoredWords → Option AreaWord
missing_in x =
    if not x.session then Some SessionWord
    else (if not x.echo then Some EchoWord
    else (if not x.flags then Some FlagWord else words_missing_in x))
