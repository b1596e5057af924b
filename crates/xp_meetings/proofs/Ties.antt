-- How a partition stands to a partner: what fits together by itself, what its own words for the partner say, and what it knows of the partner's words.
-- Each step of either keeps it. All over plain variables.
use Rattle.std.proofs.Common.{◌≡◌, ℕ, ◌+◌, ◌*◌, ◌<◌, Bool, true, false, ◌||◌, Option, Some, None, refl, ap, sym, ◌∙◌, subst, arith, inl, inr, ◌⊎◌}
use Rattle.std.specs.Prelude.{is_some}
use Rattle.xp_base.specs.Sessions.{session_of}
use Rattle.xp_protocol.specs.State.{Life, Up, Area, Old, Off, Ready, Leaving, Reading, Engage, Contact}
use Rattle.xp_protocol.specs.Peering.{or_zero}

-- what is read of it
pub record Known : Type 0 where
  pub area : Area
  pub bit : Bool
  pub stamp : ℕ
  pub count : ℕ
  pub session_put : Bool
  pub echo_put : Bool
  pub flags_put : Bool
  pub read : Option ℕ
  pub echo : Option ℕ
  pub second : Bool
  pub shown : Bool
  pub reading : Option Reading
  pub zeroed : Bool

-- under the stamp of the boot: that of the own word once it is over, and one more before
abbrev pub stamp_by : Life → ℕ → ℕ
stamp_by Up word = word
stamp_by life word = word + 1

abbrev pub known : ℕ → Engage → Known
known stamp x = record { area = x.area; bit = x.bit; stamp = stamp; count = x.count; session_put = x.session_put; echo_put = x.echo_put; flags_put = x.flags_put; read = x.read; echo = x.echo; second = x.second; shown = x.shown; reading = x.reading; zeroed = x.zeroed }

abbrev pub word_now : Known → ℕ
word_now x = x.stamp * 4294967296 + x.count

abbrev pub word_next : Known → ℕ
word_next x = x.stamp * 4294967296 + (x.count + 1)

abbrev pub is_seen : Known → Bool
is_seen x = is_some x.reading || is_some x.read

abbrev pub contact_by : Known → Contact
contact_by x = record { own = record { stamp = x.stamp; count = x.count }; theirs = session_of (or_zero x.echo) }

-- what fits together whatever the memory answers
pub record Fit (x : Known) (k : Option Contact) : Type 0 where
  pub active : is_some k ≡ true → (x.area ≡ Ready) × (x.bit ≡ true) × (x.second ≡ true) × (x.shown ≡ true)
  pub made : (m : Contact) → k ≡ Some m → m ≡ contact_by x
  pub inside : x.bit ≡ true → (x.area ≡ Ready) ⊎ (x.area ≡ Leaving)
  pub reading : is_some x.reading ≡ true → (x.area ≡ Ready) × (x.bit ≡ true)
  pub read : is_some x.read ≡ true → x.bit ≡ true
  pub echo : is_some x.echo ≡ true → x.area ≡ Ready → x.bit ≡ true
  pub known : x.bit ≡ true → is_some x.echo ≡ true → is_some x.read ≡ true
  pub got : (r : Reading) → x.reading ≡ Some r → 1 < r.done → is_some x.read ≡ true
  pub after : (r : Reading) → x.reading ≡ Some r → r.after_echo ≡ true → is_some x.echo ≡ true
  pub shown : x.bit ≡ true → x.shown ≡ true → is_some x.read ≡ true
  pub shown_in : x.area ≡ Ready → x.shown ≡ true → is_some x.echo ≡ true
  pub second : x.area ≡ Ready → x.second ≡ true → is_some x.echo ≡ true
  pub blank : x.area ≡ Off → x.echo_put ≡ true → x.echo ≡ None
  pub count : (x.area ≡ Ready) ⊎ (x.area ≡ Leaving) → 0 < x.count
  pub low : x.count < 4294967296

-- the own words for the partner: the magic, the session and the echo
pub record Owns (y : Known) (m x1 x2 : ℕ) : Type 0 where
  pub magic : y.zeroed ≡ true → (y.area ≡ Ready → ⊥) → m ≡ 0
  pub session : (y.area ≡ Ready) ⊎ (y.area ≡ Leaving) → x1 ≡ word_now y
  pub echo : (y.area ≡ Ready) ⊎ (y.area ≡ Leaving) → x2 ≡ or_zero y.echo
  pub next : y.area ≡ Off → y.session_put ≡ true → x1 ≡ word_next y
  pub blank : y.area ≡ Off → y.echo_put ≡ true → x2 ≡ 0
  pub bound : (y.area ≡ Off → ⊥) → x1 < word_next y
  pub bound_off : x1 < word_next y + 1

-- what a guest x knows of the words of its host y, and its bit there
pub record Stands (x y : Known) (bit x1 x2 : ℕ) : Type 0 where
  pub set : x.bit ≡ true → bit ≡ 1
  pub standing : is_seen x ≡ true → y.area ≡ Off → ⊥
  pub read : (v : ℕ) → x.read ≡ Some v → x1 ≡ v
  pub echo : x.bit ≡ true → (v : ℕ) → x.echo ≡ Some v → x1 ≡ v
  pub shown : x.bit ≡ true → x.shown ≡ true → x2 ≡ word_now x
  pub two : (r : Reading) → x.reading ≡ Some r → 2 < r.done → (r.echo ≡ 0) ⊎ (x2 ≡ r.echo)

-- the changes
abbrev pub zeroes : Known → Known
zeroes x = record x { zeroed = true }

abbrev pub puts_session : Known → Known
puts_session x = record x { session_put = true; echo = None }

abbrev pub puts_echo : Known → Known
puts_echo x = record x { echo_put = true; echo = None }

abbrev pub puts_flags : Known → Known
puts_flags x = record x { flags_put = true; echo = None }

abbrev pub puts_counter : Known → Known
puts_counter x = record x { echo = None }

abbrev pub opens : Known → Known
opens x = record x { area = Ready; count = x.count + 1; second = false; shown = false }

abbrev pub enters : Known → Known
enters x = record x { bit = true; read = None; reading = None }

abbrev pub reads_magic : ℕ → Known → Known
reads_magic w x = record x { reading = Some (record { done = 1; after_echo = is_some x.echo; magic = w; echo = 0 }) }

abbrev pub reads_session : ℕ → Reading → Known → Known
reads_session w r x = record x { read = Some w; reading = Some (record r { done = 2 }) }

abbrev pub reads_two : ℕ → Reading → Known → Known
reads_two w r x = record x { reading = Some (record r { done = 3; echo = w }) }

abbrev pub reads_next : Reading → Known → Known
reads_next r x = record x { reading = Some (record r { done = r.done + 1 }) }

abbrev pub reads_none : Known → Known
reads_none x = record x { reading = None }

abbrev pub reads_echo : Known → Known
reads_echo x = record x { shown = true; reading = None }

abbrev pub echoes : Known → Known
echoes x = record x { echo = x.read }

abbrev pub seconds : Known → Known
seconds x = record x { second = true }

abbrev pub leaves : Known → Known
leaves x = record x { bit = false; read = None }

abbrev pub closes : Known → Known
closes x = record x { area = Leaving; reading = None }

abbrev pub frees : Known → Known
frees x = record x { area = Off; session_put = false; echo_put = false; flags_put = false; read = None; second = false; shown = false }

abbrev pub boots : Known → Known
boots x = record { area = Old; bit = false; stamp = x.stamp + 1; count = 0; session_put = false; echo_put = false; flags_put = false; read = None; echo = None; second = false; shown = false; reading = None; zeroed = false }

-- a boot that begins before the last one is over
abbrev pub boots_again : Known → Known
boots_again x = record (boots x) { stamp = x.stamp }

module _ (x : Known) (k : Option Contact) (f : Fit x k) where
  pub fit_zeroes : Fit (zeroes x) k
  fit_zeroes = grind (arith, f)

  none : (x.area ≡ Ready → ⊥) → k ≡ None
  none d = by k f.active where
    by : (o : Option Contact) → (is_some o ≡ true → (x.area ≡ Ready) × (x.bit ≡ true) × (x.second ≡ true) × (x.shown ≡ true)) → o ≡ None
    by None h = refl
    by (Some m) h = absurd (d (h refl).0)

  unread : x.area ≡ Off → (r : Reading) → x.reading ≡ Some r → ⊥
  unread o r e = let t = (f.reading (ap (λ (i : Option Reading). is_some i) e)).0 in let z : Off ≡ Ready = sym o ∙ t in absurd (cc)

  pub fit_session : x.area ≡ Off → Fit (puts_session x) k
  fit_session o = let n = none (λ r. let z : Off ≡ Ready = sym o ∙ r in absurd (cc)) in record { active = f.active; made = λ m e. absurd (cc); inside = f.inside; reading = f.reading; read = f.read; echo = λ d. absurd (cc); known = λ b d. absurd (cc); got = f.got; after = λ r e a. absurd (unread o r e); shown = f.shown; shown_in = λ r d. absurd (cc); second = λ r d. absurd (cc); blank = λ a d. refl; count = f.count; low = f.low }

  pub fit_echo : x.area ≡ Off → Fit (puts_echo x) k
  fit_echo o = let n = none (λ r. let z : Off ≡ Ready = sym o ∙ r in absurd (cc)) in record { active = f.active; made = λ m e. absurd (cc); inside = f.inside; reading = f.reading; read = f.read; echo = λ d. absurd (cc); known = λ b d. absurd (cc); got = f.got; after = λ r e a. absurd (unread o r e); shown = f.shown; shown_in = λ r d. absurd (cc); second = λ r d. absurd (cc); blank = λ a d. refl; count = f.count; low = f.low }

  pub fit_flags : x.area ≡ Off → Fit (puts_flags x) k
  fit_flags o = let n = none (λ r. let z : Off ≡ Ready = sym o ∙ r in absurd (cc)) in record { active = f.active; made = λ m e. absurd (cc); inside = f.inside; reading = f.reading; read = f.read; echo = λ d. absurd (cc); known = λ b d. absurd (cc); got = f.got; after = λ r e a. absurd (unread o r e); shown = f.shown; shown_in = λ r d. absurd (cc); second = λ r d. absurd (cc); blank = λ a d. refl; count = f.count; low = f.low }

  pub fit_counter : x.area ≡ Off → Fit (puts_counter x) k
  fit_counter o = let n = none (λ r. let z : Off ≡ Ready = sym o ∙ r in absurd (cc)) in record { active = f.active; made = λ m e. absurd (cc); inside = f.inside; reading = f.reading; read = f.read; echo = λ d. absurd (cc); known = λ b d. absurd (cc); got = f.got; after = λ r e a. absurd (unread o r e); shown = f.shown; shown_in = λ r d. absurd (cc); second = λ r d. absurd (cc); blank = λ a d. refl; count = f.count; low = f.low }

  pub fit_opens : x.area ≡ Off → x.echo_put ≡ true → x.count < 4294967295 → Fit (opens x) k
  fit_opens o p l = let n = none (λ r. let z : Off ≡ Ready = sym o ∙ r in absurd (cc)) in let b = f.blank o p in grind (arith, f)

  pub fit_enters : x.area ≡ Ready → x.bit ≡ false → Fit (enters x) k
  fit_enters r b = grind (arith, f)

  pub fit_magic : (w : ℕ) → x.area ≡ Ready → x.bit ≡ true → Fit (reads_magic w x) k
  fit_magic w r b = grind (arith, f)

  same_reading : (r t : Reading) → Some r ≡ Some t → r ≡ t
  same_reading r t e = cc

  pub fit_read : (w : ℕ) (r : Reading) → x.bit ≡ true → x.reading ≡ Some r → Fit (reads_session w r x) k
  fit_read w r b o =
      let z = f.reading (ap (λ (i : Option Reading). is_some i) o) in
      record { active = f.active; made = f.made; inside = f.inside; reading = λ d. z; read = λ d. b; echo = f.echo; known = λ d e. refl; got = λ t e l. refl; after = λ t e a. f.after r o (ap (λ (i : Reading). i.after_echo) (same_reading (record r { done = 2 }) t e) ∙ a); shown = λ d e. refl; shown_in = f.shown_in; second = f.second; blank = f.blank; count = f.count; low = f.low }

  pub fit_two : (w : ℕ) (r : Reading) → x.reading ≡ Some r → r.done ≡ 2 → Fit (reads_two w r x) k
  fit_two w r o d =
      let z = f.reading (ap (λ (i : Option Reading). is_some i) o) in
      record { active = f.active; made = f.made; inside = f.inside; reading = λ d. z; read = f.read; echo = f.echo; known = f.known; got = λ t e l. f.got r o (omega (arith, d)); after = λ t e a. f.after r o (ap (λ (i : Reading). i.after_echo) (same_reading (record r { done = 3; echo = w }) t e) ∙ a); shown = f.shown; shown_in = f.shown_in; second = f.second; blank = f.blank; count = f.count; low = f.low }

  pub fit_next : (r : Reading) → x.reading ≡ Some r → (r.done ≡ 1 → ⊥) → Fit (reads_next r x) k
  fit_next r o n =
      let z = f.reading (ap (λ (i : Option Reading). is_some i) o) in
      record { active = f.active; made = f.made; inside = f.inside; reading = λ d. z; read = f.read; echo = f.echo; known = f.known; got = λ t e l. f.got r o (omega (arith, ap (λ (i : Reading). i.done) (same_reading (record r { done = r.done + 1 }) t e), l, n)); after = λ t e a. f.after r o (ap (λ (i : Reading). i.after_echo) (same_reading (record r { done = r.done + 1 }) t e) ∙ a); shown = f.shown; shown_in = f.shown_in; second = f.second; blank = f.blank; count = f.count; low = f.low }

  pub fit_none : Fit (reads_none x) k
  fit_none = grind (arith, f)

  pub fit_shown : (r : Reading) → x.reading ≡ Some r → r.done ≡ 7 → r.after_echo ≡ true → Fit (reads_echo x) k
  fit_shown r o g a = let z = f.got r o (omega (arith, g)) in let e = f.after r o a in grind (arith, f)

  pub fit_echoes : x.area ≡ Ready → x.bit ≡ true → x.echo ≡ None → is_some x.read ≡ true → Fit (echoes x) k
  fit_echoes r b e s = record { active = λ d. f.active d; made = λ m e'. one m e'; inside = f.inside; reading = f.reading; read = f.read; echo = λ d a. b; known = λ d a. a; got = f.got; after = λ t i a. s; shown = f.shown; shown_in = λ a d. s; second = λ a d. s; blank = λ a. (let z : Ready ≡ Off = sym r ∙ a in absurd (cc)); count = f.count; low = f.low } where
    one : (m : Contact) → k ≡ Some m → m ≡ contact_by (echoes x)
    one m e' = let t : is_some k ≡ true = ap (λ (o : Option Contact). is_some o) e' in let z = f.second (f.active t).0 (f.active t).2 in absurd (cc)

  pub fit_seconds : x.area ≡ Ready → is_some x.echo ≡ true → Fit (seconds x) k
  fit_seconds r e = grind (arith, f)

  pub fit_leaves : k ≡ None → x.reading ≡ None → ((x.area ≡ Ready) × (x.echo ≡ None)) ⊎ (x.area ≡ Leaving) → Fit (leaves x) k
  fit_leaves n r a = grind (arith, f)

  pub fit_closes : x.area ≡ Ready → Fit (closes x) None
  fit_closes r = grind (arith, f)

  pub fit_frees : x.bit ≡ false → x.area ≡ Old ⊎ x.area ≡ Leaving → Fit (frees x) None
  fit_frees b a = grind (arith, f)

  pub fit_boots : Fit (boots x) None
  fit_boots = grind arith

  pub fit_again : Fit (boots_again x) None
  fit_again = grind arith

pub fit_contact : (x : Known) → Fit x None → x.area ≡ Ready → x.bit ≡ true → x.second ≡ true → x.shown ≡ true → Fit x (Some (contact_by x))
fit_contact x f r b s t = grind (arith, f)

module _ (y : Known) (m x1 x2 : ℕ) (f : Owns y m x1 x2) where
  pub owns_zeroes : y.area ≡ Old → Owns (zeroes y) 0 x1 x2
  owns_zeroes o = grind (arith, f)

  pub owns_session : y.area ≡ Off → Owns (puts_session y) m (word_next y) x2
  owns_session o = grind (arith, f)

  pub owns_echo : y.area ≡ Off → Owns (puts_echo y) m x1 0
  owns_echo o = grind (arith, f)

  pub owns_flags : y.area ≡ Off → Owns (puts_flags y) m x1 x2
  owns_flags o = grind (arith, f)

  pub owns_counter : y.area ≡ Off → Owns (puts_counter y) m x1 x2
  owns_counter o = grind (arith, f)

  pub owns_opens : (v : ℕ) → y.area ≡ Off → y.echo ≡ None → y.session_put ≡ true → y.echo_put ≡ true → Owns (opens y) v x1 x2
  owns_opens v o e p q = grind (arith, f)

  pub owns_echoes : y.area ≡ Ready → Owns (echoes y) m x1 (or_zero y.read)
  owns_echoes r = grind (arith, f)

  pub owns_seconds : (v : ℕ) → y.area ≡ Ready → Owns (seconds y) v x1 x2
  owns_seconds v r = grind (arith, f)

  pub owns_closes : y.area ≡ Ready → Owns (closes y) 0 x1 x2
  owns_closes r = grind (arith, f)

  pub owns_frees : y.area ≡ Old ⊎ y.area ≡ Leaving → Owns (frees y) m x1 x2
  owns_frees a = grind (arith, f)

  pub owns_boots : y.count < 4294967296 → Owns (boots y) m x1 x2
  owns_boots l = grind (arith, f)

  pub owns_again : y.area ≡ Old → y.count ≡ 0 → Owns (boots_again y) m x1 x2
  owns_again o z = grind (arith, f)

-- what of the own part is shown: all else changes nothing of it
pub record Shown : Type 0 where
  pub area : Area
  pub stamp : ℕ
  pub count : ℕ
  pub session_put : Bool
  pub echo_put : Bool
  pub echo : Option ℕ
  pub zeroed : Bool

abbrev pub shown_by : Known → Shown
shown_by y = record { area = y.area; stamp = y.stamp; count = y.count; session_put = y.session_put; echo_put = y.echo_put; echo = y.echo; zeroed = y.zeroed }

pub owns_same : (y : Known) (bit : Bool) (read : Option ℕ) (shown : Bool) (reading : Option Reading) (m x1 x2 : ℕ) → Owns y m x1 x2 → Owns (record y { bit = bit; read = read; shown = shown; reading = reading }) m x1 x2
owns_same y bit read shown reading m x1 x2 f = record { magic = f.magic; session = f.session; echo = f.echo; next = f.next; blank = f.blank; bound = f.bound; bound_off = f.bound_off }

-- the guest moves
module _ (x y : Known) (k : Option Contact) (bit m x1 x2 : ℕ) (f : Fit x k) (o : Owns y m x1 x2) (z : y.area ≡ Off → y.zeroed ≡ true) (s : Stands x y bit x1 x2) where
  pub guest_zeroes : Stands (zeroes x) y bit x1 x2
  guest_zeroes = record { set = s.set; standing = s.standing; read = s.read; echo = s.echo; shown = s.shown; two = s.two }

  outside : x.area ≡ Off → x.bit ≡ false
  outside a = grind (arith, f)

  pub guest_out : (x' : Known) (b : ℕ) → x'.bit ≡ false → x'.read ≡ None → x'.reading ≡ None → Stands x' y b x1 x2
  guest_out x' b h i j = grind arith

  no_read : x.bit ≡ false → x.read ≡ None
  no_read b = by x.read f.read where
    by : (r : Option ℕ) → (is_some r ≡ true → x.bit ≡ true) → r ≡ None
    by None h = refl
    by (Some v) h = let t = h refl in absurd (cc)

  no_reading : x.bit ≡ false → x.reading ≡ None
  no_reading b = by x.reading f.reading where
    by : (r : Option Reading) → (is_some r ≡ true → (x.area ≡ Ready) × (x.bit ≡ true)) → r ≡ None
    by None h = refl
    by (Some v) h = let t = (h refl).1 in absurd (cc)

  pub guest_off : (x' : Known) → x.area ≡ Off → x'.bit ≡ x.bit → x'.read ≡ x.read → x'.reading ≡ x.reading → Stands x' y bit x1 x2
  guest_off x' a i j l = let b = outside a in guest_out x' bit (i ∙ b) (j ∙ no_read b) (l ∙ no_reading b)

  some_reading : (r t : Reading) → Some r ≡ Some t → r ≡ t
  some_reading r t e = cc

  no_some : (t : Reading) → None ≡ Some t → ⊥
  no_some t e = absurd (cc)

  pub guest_enters : x.area ≡ Ready → x.bit ≡ false → Stands (enters x) y 1 x1 x2
  guest_enters r b = grind (arith, f)

  pub guest_magic : x.area ≡ Ready → x.bit ≡ true → (m ≡ 0 → ⊥) → Stands (reads_magic m x) y bit x1 x2
  guest_magic r b n = record { set = s.set; standing = λ d e. n (o.magic (z e) (λ g. let t : Off ≡ Ready = sym e ∙ g in absurd (cc))); read = s.read; echo = s.echo; shown = s.shown; two = λ r i l. (let d = ap (λ (t : Reading). t.done) (some_reading _ r i) in absurd (omega (arith, d, l))) }

  pub guest_session : (r : Reading) → x.reading ≡ Some r → Stands (reads_session x1 r x) y bit x1 x2
  guest_session r e = record { set = s.set; standing = λ d. s.standing seen; read = λ v i. one v i; echo = s.echo; shown = s.shown; two = λ t i l. (let d = ap (λ (t : Reading). t.done) (some_reading (record r { done = 2 }) t i) in absurd (omega (arith, d, l))) } where
    seen : is_seen x ≡ true
    seen = rw e refl

    one : (v : ℕ) → Some x1 ≡ Some v → x1 ≡ v
    one v i = cc

  pub guest_two : (r : Reading) → x.reading ≡ Some r → Stands (reads_two x2 r x) y bit x1 x2
  guest_two r e = record { set = s.set; standing = λ d. s.standing (rw e refl); read = s.read; echo = s.echo; shown = s.shown; two = λ t i l. inr (ap (λ (j : Reading). j.echo) (some_reading (record r { done = 3; echo = x2 }) t i)) }

  pub guest_next : (r : Reading) → x.reading ≡ Some r → (r.done ≡ 1 → ⊥) → (r.done ≡ 2 → ⊥) → Stands (reads_next r x) y bit x1 x2
  guest_next r e n m = record { set = s.set; standing = λ d. s.standing (rw e refl); read = s.read; echo = s.echo; shown = s.shown; two = λ t i l. two t (some_reading (record r { done = r.done + 1 }) t i) l } where
    two : (t : Reading) → record r { done = r.done + 1 } ≡ t → 2 < t.done → (t.echo ≡ 0) ⊎ (x2 ≡ t.echo)
    two t i l = subst (λ (n : ℕ). (n ≡ 0) ⊎ (x2 ≡ n)) (ap (λ (j : Reading). j.echo) i) (s.two r e (omega (arith, ap (λ (j : Reading). j.done) i, l, n, m)))

  -- the whole record was read: its echo is still the partner's
  pub shown_two : (r : Reading) → x.reading ≡ Some r → r.done ≡ 7 → r.echo ≡ word_now x → x2 ≡ word_now x
  shown_two r e d h = by (s.two r e (omega (arith, d))) where
    by : (r.echo ≡ 0) ⊎ (x2 ≡ r.echo) → x2 ≡ word_now x
    by (inl z) = let c = f.count (inl (f.reading (ap (λ (i : Option Reading). is_some i) e)).0) in absurd (omega (arith, z, h, c))
    by (inr z) = z ∙ h

  pub guest_none : Stands (reads_none x) y bit x1 x2
  guest_none = record { set = s.set; standing = λ d. s.standing (more x.reading x.read d); read = s.read; echo = s.echo; shown = s.shown; two = λ t i l. absurd (no_some t i) } where
    more : (a : Option Reading) (b : Option ℕ) → is_some b ≡ true → (is_some a || is_some b) ≡ true
    more None b d = d
    more (Some r) b d = refl

  pub guest_shown : x2 ≡ word_now x → Stands (reads_echo x) y bit x1 x2
  guest_shown e = record { set = s.set; standing = guest_none.standing; read = s.read; echo = s.echo; shown = λ b d. e; two = λ t i l. absurd (no_some t i) }

  pub guest_echoes : Stands (echoes x) y bit x1 x2
  guest_echoes = record { set = s.set; standing = s.standing; read = s.read; echo = λ b v e. s.read v e; shown = s.shown; two = s.two }

  pub guest_seconds : Stands (seconds x) y bit x1 x2
  guest_seconds = record { set = s.set; standing = s.standing; read = s.read; echo = s.echo; shown = s.shown; two = s.two }

  pub guest_leaves : x.reading ≡ None → Stands (leaves x) y 0 x1 x2
  guest_leaves e = guest_out (leaves x) 0 refl refl e

  pub guest_closes : x.area ≡ Ready → Stands (closes x) y bit x1 x2
  guest_closes r = record { set = s.set; standing = guest_none.standing; read = s.read; echo = s.echo; shown = s.shown; two = λ t i l. absurd (no_some t i) }

  pub guest_frees : x.bit ≡ false → Stands (frees x) y bit x1 x2
  guest_frees b = guest_out (frees x) bit b refl (no_reading b)

  pub guest_opens : x.area ≡ Off → Stands (opens x) y bit x1 x2
  guest_opens a = let b = outside a in guest_out (opens x) bit b (no_read b) (no_reading b)

  pub guest_boots : (b : ℕ) → Stands (boots x) y b x1 x2
  guest_boots b = guest_out (boots x) b refl refl refl

  pub guest_again : (b : ℕ) → Stands (boots_again x) y b x1 x2
  guest_again b = guest_out (boots_again x) b refl refl refl

  -- the host moves: a guest that has seen nothing knows nothing
  pub unseen : y.area ≡ Off → (x.read ≡ None) × (x.reading ≡ None)
  unseen a = by x.reading x.read (λ d. s.standing d a) where
    by : (a : Option Reading) (b : Option ℕ) → ((is_some a || is_some b) ≡ true → ⊥) → (b ≡ None) × (a ≡ None)
    by None None d = (refl, refl)
    by None (Some v) d = absurd (d refl)
    by (Some r) b d = absurd (d refl)

  pub host_off : (y' : Known) (w1 w2 : ℕ) → y.area ≡ Off → Stands x y' bit w1 w2
  host_off y' w1 w2 a =
      let u = unseen a in
      let e : x.bit ≡ true → is_some x.echo ≡ true → ⊥ = λ b d. (let t = f.known b d in let r : is_some x.read ≡ false = ap (λ (q : Option ℕ). is_some q) u.0 in absurd (cc)) in
      record {
        set = s.set;
        standing = λ d. (let r : (is_some x.reading || is_some x.read) ≡ false = rw (u.0, u.1) refl in absurd (cc));
        read = λ v d. (let t : None ≡ Some v = sym u.0 ∙ d in absurd (cc));
        echo = λ b v d. absurd (e b (ap (λ (q : Option ℕ). is_some q) d));
        shown = λ b d. absurd (sees b d u.0);
        two = λ t i l. absurd (no_some t (sym u.1 ∙ i));
      }
    where
      sees : x.bit ≡ true → x.shown ≡ true → x.read ≡ None → ⊥
      sees b d r = let t = f.shown b d in let q : is_some x.read ≡ false = ap (λ (q : Option ℕ). is_some q) r in absurd (cc)

  pub host_keeps : (y' : Known) → (y'.area ≡ Off → y.area ≡ Off) → Stands x y' bit x1 x2
  host_keeps y' h = record { set = s.set; standing = λ d e. s.standing d (h e); read = s.read; echo = s.echo; shown = s.shown; two = s.two }

  pub host_frees : bit ≡ 0 → (y' : Known) → Stands x y' bit x1 x2
  host_frees e y' = guest_out' (by x.bit s.set) where
    by : (b : Bool) → (b ≡ true → bit ≡ 1) → b ≡ false
    by false h = refl
    by true h = let t = h refl in absurd (cc)

    guest_out' : x.bit ≡ false → Stands x y' bit x1 x2
    guest_out' b = let r = no_read b in let q = no_reading b in grind arith

  word_low : (n c : ℕ) → 0 < c → n * 4294967296 + c ≡ 0 → ⊥
  word_low n c l e = absurd (omega (arith, l, e))

  -- the host echoes: nobody was shown an echo before
  pub host_echoes : (y' : Known) (v : ℕ) → y.area ≡ Ready → y'.area ≡ Ready → y.echo ≡ None → Stands x y' bit x1 v
  host_echoes y' v r r' e = record {
    set = s.set;
    standing = λ d a. (let t : Ready ≡ Off = sym r' ∙ a in absurd (cc));
    read = s.read;
    echo = s.echo;
    shown = λ b d. absurd (word_low x.stamp x.count (f.count (f.inside b)) (sym (s.shown b d) ∙ o.echo (inl r) ∙ ap or_zero e));
    two = λ t i l. inl (blank t.echo (s.two t i l));
  } where
    blank : (n : ℕ) → (n ≡ 0) ⊎ (x2 ≡ n) → n ≡ 0
    blank n (inl z) = z
    blank n (inr z) = sym z ∙ o.echo (inl r) ∙ ap or_zero e
