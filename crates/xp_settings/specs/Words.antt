-- The first words of setting lines.
use Rattle.std.specs.Prelude.{ℕ, Bool, if◌then◌else◌, codes, bytes_eq, List, Option, Some, None}
use Rattle.xp_settings.specs.declared.word.SettingWord.{SettingWord}
use Rattle.xp_settings.specs.declared.word.SettingWord.TheVariants as words

abbrev pub setting_text : SettingWord → List ℕ
setting_text words.Budget = codes "budget"
setting_text words.Check = codes "check"
setting_text words.Minor = codes "minor"
setting_text words.Warm = codes "warm"
setting_text words.Fault = codes "fault"
setting_text words.Stop = codes "stop"
setting_text words.Restart = codes "restart"
setting_text words.Poke = codes "poke"

-- whether the word is that of the setting
abbrev pub spells : List ℕ → SettingWord → Bool
spells word setting = bytes_eq word (setting_text setting)

unfoldable pub setting_word_in : List ℕ → Option SettingWord
setting_word_in word =
    if spells word words.Budget then Some words.Budget
    else if spells word words.Check then Some words.Check
    else if spells word words.Minor then Some words.Minor
    else if spells word words.Warm then Some words.Warm
    else if spells word words.Fault then Some words.Fault
    else if spells word words.Stop then Some words.Stop
    else if spells word words.Restart then Some words.Restart
    else if spells word words.Poke then Some words.Poke
    else None
