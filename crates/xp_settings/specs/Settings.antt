-- What setting lines set, and the form of each.
use Rattle.std.specs.Prelude.{ℕ, ◌*◌, ◌-◌, Bool, false, codes, List, [], ◌∷◌, ◌++◌, Option, Some, None, if◌then◌else◌}
use Rattle.std.specs.Option.{is_some}
use Rattle.xp_base.specs.declared.layout.TheConstants.{LINES, PART_WORDS, FIRST_MINOR, LAST_MINOR}
use Rattle.xp_base.specs.declared.step.CopyKind.{CopyKind}
use Rattle.xp_base.specs.Windows.{window_of}
use Rattle.xp_script.specs.declared.limits.TheConstants.{BUDGET_LIMIT, CHECK_WINDOWS, CHECK_LIMIT}
use Rattle.xp_script.specs.declared.setting.Moment.{Moment}
use Rattle.xp_script.specs.declared.setting.Moment.TheVariants as moments
use Rattle.xp_script.specs.declared.setting.Warm.{Warm}
use Rattle.xp_script.specs.declared.setting.Setting.{Setting}
use Rattle.xp_script.specs.declared.setting.Setting.TheVariants as settings
use Rattle.xp_forms.specs.declared.fault.LineCause.{LineCause}
use Rattle.xp_forms.specs.declared.fault.LineCause.TheVariants as causes
use Rattle.xp_forms.specs.Forms.{Form, ends, may_end, any, positive, word}
use Rattle.xp_forms.specs.Forms.Slot.{Number, Interval, Part, Other, AnyChannel, Limit}
use Rattle.xp_forms.specs.Forms.Form.{Field, Kind, Choice, Unless, Peek}
use Rattle.xp_settings.specs.declared.word.SettingWord.{SettingWord}
use Rattle.xp_settings.specs.declared.word.SettingWord.TheVariants as words
use Rattle.xp_settings.specs.declared.settings.Settings.{Settings}
use Rattle.xp_settings.specs.Tests.{has_minor, has_warm, has_end, has_stop, has_restarts, longest_between}

abbrev pub no_settings : Settings
no_settings = record {
  budget = None;
  check = None;
  minors = [];
  warms = [];
  faults = [];
  stops = [];
  restarts = [];
  pokes = [];
}

-- one setting more
abbrev pub with_setting : Setting → Settings → Settings
with_setting (settings.Budget n) s = record s { budget = Some n }
with_setting (settings.Check n) s = record s { check = Some n }
with_setting (settings.Minor m) s = record s { minors = s.minors ++ m ∷ [] }
with_setting (settings.Warm w) s = record s { warms = s.warms ++ w ∷ [] }
with_setting (settings.Fault f) s = record s { faults = s.faults ++ f ∷ [] }
with_setting (settings.Stop x) s = record s { stops = s.stops ++ x ∷ [] }
with_setting (settings.Restart x) s = record s { restarts = s.restarts ++ x ∷ [] }
with_setting (settings.Poke x) s = record s { pokes = s.pokes ++ x ∷ [] }

abbrev pub minor_line : ℕ → ℕ → Setting
minor_line p m = settings.Minor (record { part = p; version = m })

abbrev pub warm_line : ℕ → ℕ → ℕ → ℕ → ℕ → Setting
warm_line p q c entries limit =
    settings.Warm (record { first = p; second = q; channel = c; entries = entries; limit = limit })

abbrev pub fault_line : ℕ → CopyKind → ℕ → ℕ → Setting
fault_line p kind copy load =
    settings.Fault (record { part = p; kind = kind; copy = copy; load = load })

abbrev pub stop_line : ℕ → Moment → Setting
stop_line p moment = settings.Stop (record { part = p; moment = moment })

abbrev pub restart_line : ℕ → Moment → Setting
restart_line p moment = settings.Restart (record { part = p; moment = moment })

abbrev pub poke_line : ℕ → ℕ → ℕ → ℕ → Setting
poke_line turn owner index value =
    settings.Poke (record { turn = turn; owner = owner; index = index; word = value })

-- the number names a partition of a `warm` line
abbrev pub names_end : Option ℕ → List Warm → Bool
names_end None warms = false
names_end (Some n) warms = has_end n warms

-- `put K` or `turn T`
abbrev pub moment_form : (Moment → Setting) → Form Setting
moment_form setting =
    Choice (codes "put") (Field positive λ k. ends (setting (moments.Put k)))
    (word (codes "turn") (Field any λ t. ends (setting (moments.Turn t))))

-- the form of a setting, after its word, among `count` partitions and after these settings
abbrev pub setting_form : ℕ → Settings → SettingWord → Form Setting
-- `budget N`, at most once
setting_form count s words.Budget =
    Unless (is_some s.budget) causes.Twice
    (Field (Number 1 BUDGET_LIMIT) λ n. ends (settings.Budget n))
-- `check K`, at most once: 0, or four windows or more
setting_form count s words.Check =
    Unless (is_some s.check) causes.Twice
    (Field (Interval (CHECK_WINDOWS * window_of count) CHECK_LIMIT) λ k. ends (settings.Check k))
-- `minor P M`, at most once a partition, before each `warm` line that names it
setting_form count s words.Minor =
    Peek λ n. Unless (names_end n s.warms) causes.Order
    (Field (Part count) λ p. Unless (has_minor p s.minors) causes.Twice
    (Field (Number FIRST_MINOR LAST_MINOR) λ m. ends (minor_line p m)))
-- `warm P Q C entries N limit L`, each pair and channel once
setting_form count s words.Warm =
    Field (Part count) λ p. Field (Other count p) λ q. Field AnyChannel λ c.
    Unless (has_warm p q c s.warms) causes.Twice
    (word (codes "entries") (Field (Number 1 LINES) λ n.
    word (codes "limit") (Field (Limit (longest_between p q s.minors) n) λ l.
    ends (warm_line p q c n l))))
-- `fault P KIND K`, `fault P KIND K at J`
setting_form count s words.Fault =
    Field (Part count) λ p. Kind λ kind. Field positive λ k.
    Choice (codes "at") (Field any λ j. ends (fault_line p kind k j))
    (may_end (fault_line p kind k 0))
-- `stop P put K`, `stop P turn T`, one a partition
setting_form count s words.Stop =
    Field (Part count) λ p. Unless (has_stop p s.stops) causes.Twice (moment_form (stop_line p))
-- `restart P put K`, `restart P turn T`, 63 a partition
setting_form count s words.Restart =
    Field (Part count) λ p. Unless (has_restarts p s.restarts) causes.Twice
    (moment_form (restart_line p))
-- `poke S O I W`
setting_form count s words.Poke =
    Field any λ turn. Field (Part count) λ owner. Field (Number 0 (PART_WORDS - 1)) λ index.
    Field any λ value. ends (poke_line turn owner index value)

-- what is wrong with a setting in another section: what may stand once and stood already is twice
abbrev pub misplaced : SettingWord → Settings → LineCause
misplaced words.Budget s = if is_some s.budget then causes.Twice else causes.Order
misplaced words.Check s = if is_some s.check then causes.Twice else causes.Order
misplaced _ s = causes.Order
