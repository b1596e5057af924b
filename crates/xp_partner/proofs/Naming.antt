-- The ends of a partner keep their names where each of them changes.
use Rattle.std.proofs.Common.{◌≡◌, ℕ, Bool, List, [], ◌∷◌, refl, sym, ◌∙◌, subst, arith}
use Rattle.xp_protocol.specs.Effects.{Effect, Note}
use Rattle.xp_protocol.specs.State.{End, Contact}
use Rattle.xp_base.specs.declared.reason.Reason.{Reason}
use Rattle.xp_protocol.specs.Linking.{link_down, link_finished, link_joined}
use Rattle.xp_partner.specs.Making.{flags_by}
use Rattle.xp_channel.specs.Channel.{Channel}
use Rattle.xp_engage.specs.Partner.{Partner as Standing}
use Rattle.xp_partner.specs.Partner.{channel_at, each_kept, each_roomed}
use Rattle.xp_partner.specs.Booting.{each_booted}
use Rattle.xp_partner.specs.Named.{IsNamed, AreNamed}
use Rattle.xp_partner.proofs.Four.{four_of}
use Rattle.xp_partner.proofs.Channels.{by_four}
use Rattle.xp_partner.proofs.Reserving.{length_same}

named_four : (own partner : ℕ) (a b c d : Channel) → IsNamed own partner 0 a → IsNamed own partner 1 b → IsNamed own partner 2 c → IsNamed own partner 3 d → AreNamed own partner (a ∷ b ∷ c ∷ d ∷ [])
named_four own partner a b c d h k m n = record {
  four = refl;
  each = by_four (λ i. IsNamed own partner i (channel_at (a ∷ b ∷ c ∷ d ∷ []) i)) h k m n;
}

same_name : (own partner n : ℕ) (x y : Channel) → y.own ≡ x.own → y.partner ≡ x.partner → y.channel ≡ x.channel → IsNamed own partner n x → IsNamed own partner n y
same_name own partner n x y a b d h = record { own_number = a ∙ h.own_number; partner_number = b ∙ h.partner_number; channel_number = d ∙ h.channel_number }

pub named_each : (own partner : ℕ) (f : ℕ → End → Effect End (List Note)) (xs : List Channel) → AreNamed own partner xs → AreNamed own partner (each_kept f 0 xs)
named_each own partner f xs h = four_of (λ (ys : List Channel). AreNamed own partner ys → AreNamed own partner (each_kept f 0 ys))
    (λ a b c d k. named_four own partner _ _ _ _ (same_name own partner 0 a _ refl refl refl (k.each 0 (omega arith))) (same_name own partner 1 b _ refl refl refl (k.each 1 (omega arith))) (same_name own partner 2 c _ refl refl refl (k.each 2 (omega arith))) (same_name own partner 3 d _ refl refl refl (k.each 3 (omega arith))))
    xs h.four h

pub named_booted : (own partner : ℕ) (xs : List Channel) → AreNamed own partner xs → AreNamed own partner (each_booted xs)
named_booted own partner xs h = four_of (λ (ys : List Channel). AreNamed own partner ys → AreNamed own partner (each_booted ys))
    (λ a b c d k. named_four own partner _ _ _ _ (same_name own partner 0 a _ refl refl refl (k.each 0 (omega arith))) (same_name own partner 1 b _ refl refl refl (k.each 1 (omega arith))) (same_name own partner 2 c _ refl refl refl (k.each 2 (omega arith))) (same_name own partner 3 d _ refl refl refl (k.each 3 (omega arith))))
    xs h.four h

pub named_roomed : (own partner : ℕ) (ks ys : List Channel) → AreNamed own partner ks → ys ≡ each_roomed ks ys → AreNamed own partner ys
named_roomed own partner ks ys h e = subst (AreNamed own partner) (sym e)
    (four_of (λ (us : List Channel). AreNamed own partner us → AreNamed own partner (each_roomed us ys))
    (λ a b c d. four_of (λ (vs : List Channel). AreNamed own partner (a ∷ b ∷ c ∷ d ∷ []) → AreNamed own partner (each_roomed (a ∷ b ∷ c ∷ d ∷ []) vs))
    (λ x y z w k. named_four own partner _ _ _ _ (same_name own partner 0 a _ refl refl refl (k.each 0 (omega arith))) (same_name own partner 1 b _ refl refl refl (k.each 1 (omega arith))) (same_name own partner 2 c _ refl refl refl (k.each 2 (omega arith))) (same_name own partner 3 d _ refl refl refl (k.each 3 (omega arith))))
    ys (length_same ks ys h.four e))
    ks h.four h)

pub named_as : (s t : Standing) (xs : List Channel) → t.own ≡ s.own → t.partner ≡ s.partner → AreNamed s.own s.partner xs → AreNamed t.own t.partner xs
named_as s t xs o p h = subst (λ (n : ℕ). AreNamed n t.partner xs) (sym o) (subst (λ (n : ℕ). AreNamed s.own n xs) (sym p) h)

pub named_down : (own partner : ℕ) (r : Reason) (xs ys : List Channel) → AreNamed own partner xs → ys ≡ each_kept (λ c e. link_down r e) 0 xs → AreNamed own partner ys
named_down own partner r xs ys h e = subst (AreNamed own partner) (sym e) (named_each own partner (λ c e. link_down r e) xs h)

pub named_finished : (own partner : ℕ) (xs ys : List Channel) → AreNamed own partner xs → ys ≡ each_roomed (each_kept (λ c e. link_finished e) 0 xs) ys → AreNamed own partner ys
named_finished own partner xs ys h e = named_roomed own partner (each_kept (λ c e. link_finished e) 0 xs) ys (named_each own partner (λ c e. link_finished e) xs h) e

pub named_joined : (own partner : ℕ) (new : Bool) (m : Contact) (xs ys : List Channel) → AreNamed own partner xs → ys ≡ each_roomed (each_kept (λ c e. link_joined new m e) 0 xs) ys → AreNamed own partner ys
named_joined own partner new m xs ys h e = named_roomed own partner (each_kept (λ c e. link_joined new m e) 0 xs) ys (named_each own partner (λ c e. link_joined new m e) xs h) e

pub named_taken : (own partner w : ℕ) (xs ys : List Channel) → AreNamed own partner xs → ys ≡ each_roomed (each_kept (flags_by w) 0 xs) ys → AreNamed own partner ys
named_taken own partner w xs ys h e = named_roomed own partner (each_kept (flags_by w) 0 xs) ys (named_each own partner (flags_by w) xs h) e
