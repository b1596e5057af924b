-- Where the open request wasn't sent, the open complete wasn't; a channel that is connected has sent
-- no close reply; and a size is lawful also with a lesser limit.
use Rattle.std.proofs.Common.{◌≡◌, ℕ, ◌+◌, ◌*◌, ◌/◌, ◌≤◌, ◌<◌, Bool, true, false, refl, arith}
use Rattle.std.specs.Prelude.{not, ◌&&◌, is_some, if◌then◌else◌, nat_lt}
use Rattle.std.proofs.lemmas.Bool.Decides.{nat_tests}
use Rattle.xp_base.specs.Entries.{lines}
use Rattle.xp_base.specs.declared.link.Kind.TheVariants.{OpenRequest}
use Rattle.xp_protocol.specs.Parts.{IsRequestSize}
use Rattle.xp_protocol.specs.Pulling.{lesser}
use Rattle.xp_protocol.specs.State.{Shake, shake_connected, shake_copies, both_complete}
use Rattle.xp_protocol.specs.Linking.{owed_by}
use Rattle.xp_openclose.specs.Planned.{InOrder}

by_flags : (r s c d y z : Bool) → (c ≡ true → d ≡ true) → (d ≡ true → y ≡ true) → (r && (not s && not y)) ≡ true → c ≡ false
by_flags r s false d y z f g h = refl
by_flags r s true d false z f g h = absurd (let e = f refl in let k : false ≡ true = g e in cc)
by_flags false s true d true z f g h = absurd (cc)
by_flags true true true d true z f g h = absurd (cc)
by_flags true false true d true z f g h = absurd (cc)

pub unsent : (registered copying : Bool) (x : Shake) → InOrder x.sent → owed_by OpenRequest registered copying x ≡ true → x.sent.open_complete ≡ false
unsent registered copying x h o = by_flags registered (is_some x.reason) x.sent.open_complete x.sent.open_reply x.sent.open_request true h.complete h.reply o

by_reason : (b s c d : Bool) → (d ≡ true → c ≡ true) → (c ≡ true → s ≡ true) → (b && not s) ≡ true → (b && not d) ≡ true
by_reason true false c false f g h = refl
by_reason true false c true f g h = absurd (let e = g (f refl) in cc)
by_reason true true c d f g h = absurd (cc)
by_reason false s c d f g h = absurd (cc)

pub still_copies : (x : Shake) → InOrder x.sent → (x.sent.close_request ≡ true → is_some x.reason ≡ true) → shake_connected x ≡ true → shake_copies x ≡ true
still_copies x h g c = by_reason (both_complete x) (is_some x.reason) x.sent.close_request x.sent.close_reply h.close g c

-- the lesser of two limits
left_below : (a b : ℕ) → lesser a b ≤ a
left_below a b = grind (arith, nat_tests)

right_below : (a b : ℕ) → lesser a b ≤ b
right_below a b = grind (arith, nat_tests)

fewer_lines : (a b : ℕ) → a ≤ b → lines a ≤ lines b
fewer_lines a b h = omega (arith, h)

lawful_below : (n a b : ℕ) → IsRequestSize n b → a ≤ b → IsRequestSize n a
lawful_below n a b z h = (z.0, z.1, omega (arith, z.2, h), let l = fewer_lines a b h in grind arith)

pub lawful_left : (n a b : ℕ) → IsRequestSize n a → IsRequestSize n (lesser a b)
lawful_left n a b z = lawful_below n (lesser a b) a z (left_below a b)

pub lawful_right : (n a b : ℕ) → IsRequestSize n b → IsRequestSize n (lesser a b)
lawful_right n a b z = lawful_below n (lesser a b) b z (right_below a b)
