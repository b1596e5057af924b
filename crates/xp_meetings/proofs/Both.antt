-- Two partitions: what fits together in each, what the own words of each for the other say, and what each knows of the other's. Each step of one keeps it.
use Rattle.std.proofs.Common.{◌≡◌, ℕ, ◌+◌, ◌<◌, true, false, Option, Some, None, refl, sym, ◌∙◌, subst, inl, inr, ◌⊎◌}
use Rattle.std.specs.Prelude.{is_some}
use Rattle.xp_protocol.specs.State.{Life, Booting, Up, Halted, Old, Off, Ready, Leaving, Reading, Contact}
use Rattle.xp_protocol.specs.Peering.{or_zero}
use Rattle.xp_meetings.proofs.Ties.{Known, Fit, Owns, Stands, word_now, word_next, contact_by, zeroes, puts_session, puts_echo, puts_flags, puts_counter, opens, enters, reads_magic, reads_session, reads_two, reads_next, reads_none, reads_echo, echoes, seconds, leaves, closes, frees, boots, boots_again}
use Rattle.xp_meetings.proofs.Ties.{fit_zeroes, fit_session, fit_echo, fit_flags, fit_counter, fit_opens, fit_enters, fit_magic, fit_read, fit_two, fit_next, fit_none, fit_shown, fit_echoes, fit_seconds, fit_leaves, fit_closes, fit_frees, fit_boots, fit_again, fit_contact}
use Rattle.xp_meetings.proofs.Ties.{owns_zeroes, owns_session, owns_echo, owns_flags, owns_counter, owns_opens, owns_echoes, owns_seconds, owns_closes, owns_frees, owns_boots, owns_again, owns_same}
use Rattle.xp_meetings.proofs.Ties.{guest_zeroes, guest_off, guest_enters, guest_magic, guest_session, guest_two, guest_next, shown_two, guest_none, guest_shown, guest_echoes, guest_seconds, guest_leaves, guest_closes, guest_frees, guest_opens, guest_boots, guest_again, host_off, host_keeps, host_frees, host_echoes}

pub record OwnBy (life : Life) (x : Known) (k : Option Contact) (m x1 x2 : ℕ) : Type 0 where
  pub fit : Fit x k
  pub owns : Owns x m x1 x2
  pub up : life ≡ Up → x.zeroed ≡ true
  pub down : (life ≡ Up → ⊥) → x.area ≡ Old
  pub zero : life ≡ Booting → x.count ≡ 0

pub free_zeroed : (life : Life) (x : Known) (k : Option Contact) (m x1 x2 : ℕ) → OwnBy life x k m x1 x2 → x.area ≡ Off → x.zeroed ≡ true
free_zeroed Up x k m x1 x2 h o = h.up refl
free_zeroed Booting x k m x1 x2 h o = let z : Old ≡ Off = sym (h.down (λ e. absurd (cc))) ∙ o in absurd (cc)
free_zeroed Halted x k m x1 x2 h o = let z : Old ≡ Off = sym (h.down (λ e. absurd (cc))) ∙ o in absurd (cc)

pub asleep : (life : Life) → life ≡ Booting → life ≡ Up → ⊥
asleep life b u = let z : Booting ≡ Up = sym b ∙ u in absurd (cc)

-- one of two: whether it is up, how it stands to the other, its words for the other, and its bit at the other
pub record Side : Type 0 where
  pub life : Life
  pub x : Known
  pub contact : Option Contact
  pub magic : ℕ
  pub one : ℕ
  pub two : ℕ
  pub bit : ℕ

pub record Both (a b : Side) : Type 0 where
  pub own : OwnBy a.life a.x a.contact a.magic a.one a.two
  pub their : OwnBy b.life b.x b.contact b.magic b.one b.two
  pub guest : Stands a.x b.x a.bit b.one b.two
  pub host : Stands b.x a.x b.bit a.one a.two

pub both_turned : (a b : Side) → Both a b → Both b a
both_turned a b h = record { own = h.their; their = h.own; guest = h.host; host = h.guest }

module _ (a b : Side) (h : Both a b) where
  free : b.x.area ≡ Off → b.x.zeroed ≡ true
  free o = free_zeroed b.life b.x b.contact b.magic b.one b.two h.their o

  own_free : a.x.area ≡ Off → a.x.zeroed ≡ true
  own_free o = free_zeroed a.life a.x a.contact a.magic a.one a.two h.own o

  keeps : (x' : Known) → (x'.area ≡ Off → a.x.area ≡ Off) → Stands b.x x' b.bit a.one a.two
  keeps x' d = host_keeps b.x a.x b.contact b.bit a.magic a.one a.two h.their.fit h.own.owns own_free h.host x' d

  off : (x' : Known) (w1 w2 : ℕ) → a.x.area ≡ Off → Stands b.x x' b.bit w1 w2
  off x' w1 w2 o = host_off b.x a.x b.contact b.bit a.magic a.one a.two h.their.fit h.own.owns own_free h.host x' w1 w2 o

  pub both_zeroes : a.life ≡ Booting → Both (record a { x = zeroes a.x; magic = 0 }) b
  both_zeroes l = record { own = record { fit = fit_zeroes a.x a.contact h.own.fit; owns = owns_zeroes a.x a.magic a.one a.two h.own.owns (h.own.down (asleep a.life l)); up = λ u. refl; down = h.own.down; zero = h.own.zero }; their = h.their; guest = guest_zeroes a.x b.x a.contact a.bit b.magic b.one b.two h.own.fit h.their.owns free h.guest; host = keeps (zeroes a.x) (λ o. o) }

  pub both_clears : a.life ≡ Booting → Both (record a { bit = 0 }) b
  both_clears l = record { own = h.own; their = h.their; guest = record { set = λ d. absurd (bad d); standing = h.guest.standing; read = h.guest.read; echo = h.guest.echo; shown = h.guest.shown; two = h.guest.two }; host = h.host } where
    bad : a.x.bit ≡ true → ⊥
    bad d = let o = h.own.down (asleep a.life l) in elim (h.own.fit.inside d) [ inl r ↦ let z : Old ≡ Ready = sym o ∙ r in absurd (cc) | inr r ↦ let z : Old ≡ Leaving = sym o ∙ r in absurd (cc) ]

  up_off : a.x.area ≡ Off → (a.life ≡ Up → ⊥) → ⊥
  up_off o l = let z : Old ≡ Off = sym (h.own.down l) ∙ o in absurd (cc)

  pub both_session : a.x.area ≡ Off → Both (record a { x = puts_session a.x; one = word_next a.x }) b
  both_session o = record { own = record { fit = fit_session a.x a.contact h.own.fit o; owns = owns_session a.x a.magic a.one a.two h.own.owns o; up = h.own.up; down = h.own.down; zero = h.own.zero }; their = h.their; guest = guest_off a.x b.x a.contact a.bit b.magic b.one b.two h.own.fit h.their.owns free h.guest (puts_session a.x) o refl refl refl; host = off (puts_session a.x) (word_next a.x) a.two o }

  pub both_echo : a.x.area ≡ Off → Both (record a { x = puts_echo a.x; two = 0 }) b
  both_echo o = record { own = record { fit = fit_echo a.x a.contact h.own.fit o; owns = owns_echo a.x a.magic a.one a.two h.own.owns o; up = h.own.up; down = h.own.down; zero = h.own.zero }; their = h.their; guest = guest_off a.x b.x a.contact a.bit b.magic b.one b.two h.own.fit h.their.owns free h.guest (puts_echo a.x) o refl refl refl; host = off (puts_echo a.x) a.one 0 o }

  pub both_flags : a.x.area ≡ Off → Both (record a { x = puts_flags a.x }) b
  both_flags o = record { own = record { fit = fit_flags a.x a.contact h.own.fit o; owns = owns_flags a.x a.magic a.one a.two h.own.owns o; up = h.own.up; down = h.own.down; zero = h.own.zero }; their = h.their; guest = guest_off a.x b.x a.contact a.bit b.magic b.one b.two h.own.fit h.their.owns free h.guest (puts_flags a.x) o refl refl refl; host = off (puts_flags a.x) a.one a.two o }

  pub both_counter : a.x.area ≡ Off → Both (record a { x = puts_counter a.x }) b
  both_counter o = record { own = record { fit = fit_counter a.x a.contact h.own.fit o; owns = owns_counter a.x a.magic a.one a.two h.own.owns o; up = h.own.up; down = h.own.down; zero = h.own.zero }; their = h.their; guest = guest_off a.x b.x a.contact a.bit b.magic b.one b.two h.own.fit h.their.owns free h.guest (puts_counter a.x) o refl refl refl; host = off (puts_counter a.x) a.one a.two o }

  pub both_opens : (v : ℕ) → a.x.area ≡ Off → a.x.session_put ≡ true → a.x.echo_put ≡ true → a.x.count < 4294967295 → Both (record a { x = opens a.x; magic = v }) b
  both_opens v o s e l = record { own = record { fit = fit_opens a.x a.contact h.own.fit o e l; owns = owns_opens a.x a.magic a.one a.two h.own.owns v o (h.own.fit.blank o e) s e; up = h.own.up; down = λ d. absurd (up_off o d); zero = λ d. absurd (up_off o (asleep a.life d)) }; their = h.their; guest = guest_opens a.x b.x a.contact a.bit b.magic b.one b.two h.own.fit h.their.owns free h.guest o; host = off (opens a.x) a.one a.two o }

  up_ready : a.x.area ≡ Ready → (a.life ≡ Up → ⊥) → ⊥
  up_ready o l = let z : Old ≡ Ready = sym (h.own.down l) ∙ o in absurd (cc)

  pub both_enters : a.x.area ≡ Ready → a.x.bit ≡ false → Both (record a { x = enters a.x; bit = 1 }) b
  both_enters r n = record { own = record { fit = fit_enters a.x a.contact h.own.fit r n; owns = owns_same a.x true None a.x.shown None a.magic a.one a.two h.own.owns; up = h.own.up; down = h.own.down; zero = h.own.zero }; their = h.their; guest = guest_enters a.x b.x a.contact a.bit b.magic b.one b.two h.own.fit h.their.owns free h.guest r n; host = keeps (enters a.x) (λ o. o) }

  pub both_magic : a.x.area ≡ Ready → a.x.bit ≡ true → (b.magic ≡ 0 → ⊥) → Both (record a { x = reads_magic b.magic a.x }) b
  both_magic r t n = record { own = record { fit = fit_magic a.x a.contact h.own.fit b.magic r t; owns = owns_same a.x a.x.bit a.x.read a.x.shown (Some (record { done = 1; after_echo = is_some a.x.echo; magic = b.magic; echo = 0 })) a.magic a.one a.two h.own.owns; up = h.own.up; down = h.own.down; zero = h.own.zero }; their = h.their; guest = guest_magic a.x b.x a.contact a.bit b.magic b.one b.two h.own.fit h.their.owns free h.guest r t n; host = keeps (reads_magic b.magic a.x) (λ o. o) }

  pub both_read : (r : Reading) → a.x.bit ≡ true → a.x.reading ≡ Some r → Both (record a { x = reads_session b.one r a.x }) b
  both_read r t e = record { own = record { fit = fit_read a.x a.contact h.own.fit b.one r t e; owns = owns_same a.x a.x.bit (Some b.one) a.x.shown (Some (record r { done = 2 })) a.magic a.one a.two h.own.owns; up = h.own.up; down = h.own.down; zero = h.own.zero }; their = h.their; guest = guest_session a.x b.x a.contact a.bit b.magic b.one b.two h.own.fit h.their.owns free h.guest r e; host = keeps (reads_session b.one r a.x) (λ o. o) }

  pub both_none : Both (record a { x = reads_none a.x }) b
  both_none = record { own = record { fit = fit_none a.x a.contact h.own.fit; owns = owns_same a.x a.x.bit a.x.read a.x.shown None a.magic a.one a.two h.own.owns; up = h.own.up; down = h.own.down; zero = h.own.zero }; their = h.their; guest = guest_none a.x b.x a.contact a.bit b.magic b.one b.two h.own.fit h.their.owns free h.guest; host = keeps (reads_none a.x) (λ o. o) }

  pub both_two : (r : Reading) → a.x.reading ≡ Some r → r.done ≡ 2 → Both (record a { x = reads_two b.two r a.x }) b
  both_two r e d = record { own = record { fit = fit_two a.x a.contact h.own.fit b.two r e d; owns = owns_same a.x a.x.bit a.x.read a.x.shown (Some (record r { done = 3; echo = b.two })) a.magic a.one a.two h.own.owns; up = h.own.up; down = h.own.down; zero = h.own.zero }; their = h.their; guest = guest_two a.x b.x a.contact a.bit b.magic b.one b.two h.own.fit h.their.owns free h.guest r e; host = keeps (reads_two b.two r a.x) (λ o. o) }

  pub both_next : (r : Reading) → a.x.reading ≡ Some r → (r.done ≡ 1 → ⊥) → (r.done ≡ 2 → ⊥) → Both (record a { x = reads_next r a.x }) b
  both_next r e n m = record { own = record { fit = fit_next a.x a.contact h.own.fit r e n; owns = owns_same a.x a.x.bit a.x.read a.x.shown (Some (record r { done = r.done + 1 })) a.magic a.one a.two h.own.owns; up = h.own.up; down = h.own.down; zero = h.own.zero }; their = h.their; guest = guest_next a.x b.x a.contact a.bit b.magic b.one b.two h.own.fit h.their.owns free h.guest r e n m; host = keeps (reads_next r a.x) (λ o. o) }

  pub both_shown : (r : Reading) → a.x.reading ≡ Some r → r.done ≡ 7 → r.after_echo ≡ true → r.echo ≡ word_now a.x → Both (record a { x = reads_echo a.x }) b
  both_shown r e g s t = let d = shown_two a.x b.x a.contact a.bit b.magic b.one b.two h.own.fit h.their.owns free h.guest r e g t in record { own = record { fit = fit_shown a.x a.contact h.own.fit r e g s; owns = owns_same a.x a.x.bit a.x.read true None a.magic a.one a.two h.own.owns; up = h.own.up; down = h.own.down; zero = h.own.zero }; their = h.their; guest = guest_shown a.x b.x a.contact a.bit b.magic b.one b.two h.own.fit h.their.owns free h.guest d; host = keeps (reads_echo a.x) (λ o. o) }

  pub both_echoes : a.x.area ≡ Ready → a.x.bit ≡ true → a.x.echo ≡ None → is_some a.x.read ≡ true → Both (record a { x = echoes a.x; two = or_zero a.x.read }) b
  both_echoes r t e s = record { own = record { fit = fit_echoes a.x a.contact h.own.fit r t e s; owns = owns_echoes a.x a.magic a.one a.two h.own.owns r; up = h.own.up; down = h.own.down; zero = h.own.zero }; their = h.their; guest = guest_echoes a.x b.x a.contact a.bit b.magic b.one b.two h.own.fit h.their.owns free h.guest; host = host_echoes b.x a.x b.contact b.bit a.magic a.one a.two h.their.fit h.own.owns own_free h.host (echoes a.x) (or_zero a.x.read) r r e }

  pub both_seconds : (v : ℕ) → a.x.area ≡ Ready → is_some a.x.echo ≡ true → Both (record a { x = seconds a.x; magic = v }) b
  both_seconds v r e = record { own = record { fit = fit_seconds a.x a.contact h.own.fit r e; owns = owns_seconds a.x a.magic a.one a.two h.own.owns v r; up = h.own.up; down = h.own.down; zero = h.own.zero }; their = h.their; guest = guest_seconds a.x b.x a.contact a.bit b.magic b.one b.two h.own.fit h.their.owns free h.guest; host = keeps (seconds a.x) (λ o. o) }

  pub both_leaves : a.contact ≡ None → a.x.reading ≡ None → ((a.x.area ≡ Ready) × (a.x.echo ≡ None)) ⊎ (a.x.area ≡ Leaving) → Both (record a { x = leaves a.x; bit = 0 }) b
  both_leaves n r s = record { own = record { fit = fit_leaves a.x a.contact h.own.fit n r s; owns = owns_same a.x false None a.x.shown a.x.reading a.magic a.one a.two h.own.owns; up = h.own.up; down = h.own.down; zero = h.own.zero }; their = h.their; guest = guest_leaves a.x b.x a.contact a.bit b.magic b.one b.two h.own.fit h.their.owns free h.guest r; host = keeps (leaves a.x) (λ o. o) }

  pub both_closes : a.x.area ≡ Ready → Both (record a { x = closes a.x; magic = 0; contact = None }) b
  both_closes r = record { own = record { fit = fit_closes a.x a.contact h.own.fit r; owns = owns_closes a.x a.magic a.one a.two h.own.owns r; up = h.own.up; down = λ d. absurd (up_ready r d); zero = h.own.zero }; their = h.their; guest = guest_closes a.x b.x a.contact a.bit b.magic b.one b.two h.own.fit h.their.owns free h.guest r; host = keeps (closes a.x) (λ o. absurd (cc)) }

  pub both_frees : a.life ≡ Up → a.x.bit ≡ false → (a.x.area ≡ Old) ⊎ (a.x.area ≡ Leaving) → b.bit ≡ 0 → Both (record a { x = frees a.x; contact = None }) b
  both_frees l n s z = record { own = record { fit = fit_frees a.x a.contact h.own.fit n s; owns = owns_frees a.x a.magic a.one a.two h.own.owns s; up = h.own.up; down = λ d. absurd (d l); zero = h.own.zero }; their = h.their; guest = guest_frees a.x b.x a.contact a.bit b.magic b.one b.two h.own.fit h.their.owns free h.guest n; host = host_frees b.x a.x b.contact b.bit a.magic a.one a.two h.their.fit h.own.owns own_free h.host z (frees a.x) }

  pub both_boots : Both (record a { life = Booting; x = boots a.x; contact = None }) b
  both_boots = record { own = record { fit = fit_boots a.x a.contact h.own.fit; owns = owns_boots a.x a.magic a.one a.two h.own.owns h.own.fit.low; up = λ d. absurd (cc); down = λ d. refl; zero = λ d. refl }; their = h.their; guest = guest_boots a.x b.x a.contact a.bit b.magic b.one b.two h.own.fit h.their.owns free h.guest a.bit; host = keeps (boots a.x) (λ o. absurd (cc)) }

  pub both_again : a.life ≡ Booting → Both (record a { x = boots_again a.x; contact = None }) b
  both_again l = record { own = record { fit = fit_again a.x a.contact h.own.fit; owns = owns_again a.x a.magic a.one a.two h.own.owns (h.own.down (asleep a.life l)) (h.own.zero l); up = λ d. absurd (asleep a.life l d); down = λ d. refl; zero = λ d. refl }; their = h.their; guest = guest_again a.x b.x a.contact a.bit b.magic b.one b.two h.own.fit h.their.owns free h.guest a.bit; host = keeps (boots_again a.x) (λ o. absurd (cc)) }

  pub both_halts : a.life ≡ Booting → Both (record a { life = Halted }) b
  both_halts l = record { own = record { fit = h.own.fit; owns = h.own.owns; up = λ d. absurd (cc); down = λ d. h.own.down (asleep a.life l); zero = λ d. absurd (cc) }; their = h.their; guest = h.guest; host = h.host }

  pub both_up : a.x.zeroed ≡ true → Both (record a { life = Up }) b
  both_up z = record { own = record { fit = h.own.fit; owns = h.own.owns; up = λ d. z; down = λ d. absurd (d refl); zero = λ d. absurd (cc) }; their = h.their; guest = h.guest; host = h.host }

  pub both_contact : a.contact ≡ None → a.x.area ≡ Ready → a.x.bit ≡ true → a.x.second ≡ true → a.x.shown ≡ true → Both (record a { contact = Some (contact_by a.x) }) b
  both_contact n r t s e = record { own = record { fit = fit_contact a.x (subst (λ (o : Option Contact). Fit a.x o) n h.own.fit) r t s e; owns = h.own.owns; up = h.own.up; down = h.own.down; zero = h.own.zero }; their = h.their; guest = h.guest; host = h.host }
