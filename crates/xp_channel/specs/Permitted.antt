-- A step that an end wants is a permitted one of each partition that knows this end, whatever
-- numbers its copies have.
use Rattle.std.specs.Prelude.{◌≡◌, ℕ, Option, Some, None}
use Rattle.xp_base.specs.declared.step.Wanted.{Wanted}
use Rattle.xp_base.specs.declared.step.CopyMark.{CopyMark}
use Rattle.xp_script.specs.declared.part.ScenarioPart.{ScenarioPart}
use Rattle.xp_protocol.specs.declared.rule.LinkRule.{LinkRule}
use Rattle.xp_protocol.specs.declared.rule.Rule.TheVariants.{Link}
use Rattle.xp_protocol.specs.State.{State, Up, end_of}
use Rattle.xp_protocol.specs.Rules.{Can, IsUsable, wanted_of}
use Rattle.xp_protocol.specs.Linking.{link_can}
use Rattle.xp_channel.specs.Channel.{Channel}

-- the number of its copy is put into a step that is wanted
abbrev pub numbered_as : ℕ → Option CopyMark → Option CopyMark
numbered_as n None = None
numbered_as n (Some x) = Some (record x { number = n })

pub record IsPermitted (s : ScenarioPart) (st : State) (q c : ℕ) (w : Wanted) : Type 0 where
  pub rule : LinkRule
  pub can : Can s st (Link q c rule)
  pub number : ℕ
  pub wanted : wanted_of s st (Link q c rule) ≡ record w { mark = numbered_as number w.mark }

abbrev pub ArePermitted : Channel → Option Wanted → Type 0
ArePermitted x None = Unit {0}
ArePermitted x (Some w) =
    (s : ScenarioPart) (st : State) → s.part ≡ x.own → end_of st x.partner x.channel ≡ x.end
    → st.life ≡ Up → IsUsable s st x.partner x.channel → IsPermitted s st x.partner x.channel w

abbrev pub IfCan : Channel → Option LinkRule → Type 0
IfCan x None = Unit {0}
IfCan x (Some m) = link_can x.end m
