-- The step that an end wants is a permitted one of each partition that knows this end, but for the number of its copy.
use Rattle.std.proofs.Common.{◌≡◌, ℕ, Option, Some, None, refl, subst}
use Rattle.xp_protocol.specs.declared.rule.LinkRule.{LinkRule}
use Rattle.xp_protocol.specs.declared.rule.Rule.TheVariants.{Link}
use Rattle.xp_script.specs.declared.part.ScenarioPart.{ScenarioPart}
use Rattle.xp_protocol.specs.Effects.{Copied}
use Rattle.xp_protocol.specs.State.{State, End, Up, end_of}
use Rattle.xp_protocol.specs.Linking.{link_can, link_row}
use Rattle.xp_protocol.specs.Rules.{IsUsable, mark_for, wanted_of}
use Rattle.xp_protocol.specs.Wanting.{mark_with, wanted_at}
use Rattle.xp_channel.specs.Channel.{Channel}
use Rattle.xp_channel.specs.Planned.{rule_wanted}
use Rattle.xp_channel.specs.Permitted.{numbered_as, IsPermitted}

number_in : (s : ScenarioPart) (st : State) (q c : ℕ) (m : LinkRule) (o : Option Copied) → (n : ℕ) × (mark_for st (Link q c m) o ≡ numbered_as n (mark_with 0 o))
number_in s st q c m None = (0, refl)
number_in s st q c m (Some x) = (_, refl)

here : (s : ScenarioPart) (st : State) (q c : ℕ) (m : LinkRule) → st.life ≡ Up → IsUsable s st q c → link_can (end_of st q c) m → IsPermitted s st q c (wanted_at s.part q (link_row s.part q c (end_of st q c) m))
here s st q c m up usable can =
    let n = number_in s st q c m (link_row s.part q c (end_of st q c) m).copy in
    record { rule = m; can = (up, (usable, can)); number = n.0; wanted = λ i. record { op = (wanted_of s st (Link q c m)).op; mark = n.1 i } }

pub permitted : (x : Channel) (m : LinkRule) → link_can x.end m → (s : ScenarioPart) (st : State) → s.part ≡ x.own → end_of st x.partner x.channel ≡ x.end → st.life ≡ Up → IsUsable s st x.partner x.channel → IsPermitted s st x.partner x.channel (rule_wanted x m)
permitted x m can s st own same up usable =
    let P : End → ℕ → Type 0 = λ e p. link_can e m → IsPermitted s st x.partner x.channel (wanted_at p x.partner (link_row p x.partner x.channel e m)) in
    subst (λ (p : ℕ). P x.end p) own (subst (λ (e : End). P e s.part) same (λ k. here s st x.partner x.channel m up usable k)) can
