-- What a contact of one of two partitions says of both.
use Rattle.std.proofs.Common.{◌≡◌, ℕ, ◌+◌, ◌*◌, ◌/◌, ◌%◌, ◌<◌, Bool, true, false, ◌||◌, Option, Some, None, refl, ap, sym, ◌∙◌, subst, arith, inl, inr, ◌⊎◌}
use Rattle.std.specs.Prelude.{is_some}
use Rattle.xp_base.specs.declared.session.Session.{Session}
use Rattle.xp_base.specs.Sessions.{session_word, session_of}
use Rattle.xp_protocol.specs.State.{Off, Ready, Contact}
use Rattle.xp_protocol.specs.Peering.{or_zero}
use Rattle.xp_meetings.proofs.Ties.{Known, word_now, word_next, is_seen}
use Rattle.xp_meetings.proofs.Both.{Side, Both, free_zeroed}

-- the session under which the own memory is open
abbrev pub now : Side → Session
now i = record { stamp = i.x.stamp; count = i.x.count }

-- open to the partner, and not in contact
pub record IsWaiting (i : Side) : Type 0 where
  pub ready : i.x.area ≡ Ready
  pub alone : i.contact ≡ None

-- the own words may be known to the partner
abbrev pub Opens : Side → Side → Type 0
Opens i j = (i.x.area ≡ Ready) ⊎ ((i.magic ≡ 0 → ⊥) ⊎ (is_seen j.x ≡ true))

pub record Touch (i j : Side) (m : Contact) : Type 0 where
  pub ready : i.x.area ≡ Ready
  pub own : m.own ≡ now i
  pub two : session_of j.two ≡ m.own
  pub one : session_of j.one ≡ m.theirs
  pub bound : session_word m.theirs < word_next j.x
  pub echo : j.x.area ≡ Ready → j.x.echo ≡ Some (session_word m.own)
  pub named : j.x.area ≡ Ready → m.theirs ≡ now j
  pub standing : j.x.area ≡ Off → ⊥
  pub seen : is_seen i.x ≡ true

pub word_back : (n : ℕ) → (n / 4294967296) * 4294967296 + n % 4294967296 ≡ n
word_back n = omega arith

stamp_back : (a b : ℕ) → b < 4294967296 → (a * 4294967296 + b) / 4294967296 ≡ a
stamp_back a b l = omega (arith, l)

count_back : (a b : ℕ) → b < 4294967296 → (a * 4294967296 + b) % 4294967296 ≡ b
count_back a b l = omega (arith, l)

pub session_back : (u : Session) → u.count < 4294967296 → session_of (session_word u) ≡ u
session_back u l = λ i. record { stamp = stamp_back u.stamp u.count l i; count = count_back u.stamp u.count l i }

or_some : (o : Option ℕ) → is_some o ≡ true → o ≡ Some (or_zero o)
or_some None h = absurd (cc)
or_some (Some v) h = refl

or_there : (o : Option ℕ) (v : ℕ) → (v ≡ 0 → ⊥) → or_zero o ≡ v → o ≡ Some v
or_there None v n e = absurd (n (sym e))
or_there (Some x) v n e = ap (λ (z : ℕ). Some z) e

seen_by : (x : Known) → is_some x.read ≡ true → is_seen x ≡ true
seen_by x h = by (is_some x.reading) (is_some x.read) h where
  by : (a b : Bool) → b ≡ true → (a || b) ≡ true
  by true b h = refl
  by false b h = h

pub touch : (i j : Side) (m : Contact) → Both i j → i.contact ≡ Some m → Touch i j m
touch i j m h e =
    let f = h.own.fit in
    let a = f.active (ap (λ (o : Option Contact). is_some o) e) in
    let made = f.made m e in
    let echoed = f.second a.0 a.2 in
    let has = or_some i.x.echo echoed in
    let one : j.one ≡ or_zero i.x.echo = h.guest.echo a.1 (or_zero i.x.echo) has in
    let two : j.two ≡ word_now i.x = h.guest.shown a.1 a.3 in
    let own : m.own ≡ now i = ap (λ (k : Contact). k.own) made in
    let theirs : m.theirs ≡ session_of j.one = ap (λ (k : Contact). k.theirs) made ∙ ap session_of (sym one) in
    let seen = seen_by i.x (f.known a.1 echoed) in
    let standing : j.x.area ≡ Off → ⊥ = λ o. h.guest.standing seen o in
    let nonzero : word_now i.x ≡ 0 → ⊥ = λ z. (let l = f.count (inl a.0) in absurd (omega (arith, l, z))) in
    record {
      ready = a.0;
      own = own;
      two = ap session_of two ∙ session_back (now i) f.low ∙ sym own;
      one = sym theirs;
      bound = (let b = h.their.owns.bound standing in subst (λ (u : Session). session_word u < word_next j.x) (sym theirs) (subst (λ (n : ℕ). n < word_next j.x) (sym (word_back j.one)) b));
      echo = λ r. or_there j.x.echo (session_word m.own) (λ z. nonzero (sym (ap session_word own) ∙ z)) (sym (h.their.owns.echo (inl r)) ∙ two ∙ sym (ap session_word own));
      named = λ r. theirs ∙ ap session_of (h.their.owns.session (inl r)) ∙ session_back (now j) h.their.fit.low;
      standing = standing;
      seen = seen;
    }

-- words that nobody may know while they are written
pub shut : (i j : Side) → Both i j → i.x.area ≡ Off → Opens i j → ⊥
shut i j h o (inl r) = let z : Off ≡ Ready = sym o ∙ r in absurd (cc)
shut i j h o (inr (inl n)) = n (h.own.owns.magic (free_zeroed i.life i.x i.contact i.magic i.one i.two h.own o) (λ r. (let z : Off ≡ Ready = sym o ∙ r in absurd (cc))))
shut i j h o (inr (inr s)) = h.host.standing s o
