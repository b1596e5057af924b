-- Sizes and limits: what both ends of a connection ask for, the limit that they agree on, and that
-- both have the same sizes, and so as many lines an entry.
use Rattle.std.specs.Prelude.{◌≡◌, ℕ, true, false, is_some, List}
use Rattle.xp_base.specs.Entries.{lines}
use Rattle.xp_base.specs.History.{Event}
use Rattle.xp_script.specs.declared.scenario.Scenario.{Scenario}
use Rattle.xp_script.specs.Opening.{opening, version_word}
use Rattle.xp_script.specs.Settings.{minor_of}
use Rattle.xp_protocol.specs.Linking.{agreed}
use Rattle.xp_protocol.specs.Parts.{IsRequestSize}
use Rattle.xp_protocol.specs.Promised.{IsLine, VersionsStand, memory_by, size_got, size_sent}
use Rattle.xp_protocol.specs.Pulling.{lesser}
use Rattle.xp_protocol.specs.State.{End, are_new, may_copy}
use Rattle.xp_invariants.specs.Flags.{end_at, InContact}

-- one limit on all four sides of two ends, the queues of each as the other reads them, and a size
-- that may be asked for: the entries are those that the end asked for, whatever its registration is
-- now, and the limit is the lesser of both that were asked for. These are equal, where not both
-- versions know entries of several lines
pub record HaveOneLimit (e g : End) : Type 0 where
  pub own : e.sides.send.limit ≡ e.sides.pull.limit
  pub theirs : g.sides.send.limit ≡ e.sides.send.limit
  pub read : g.sides.pull.limit ≡ e.sides.send.limit
  pub lines : lines g.sides.send.limit ≡ lines e.sides.send.limit
  pub queue : g.sides.pull.entries ≡ e.sides.send.entries
  pub their_queue : e.sides.pull.entries ≡ g.sides.send.entries
  pub size : IsRequestSize e.sides.send.entries e.sides.send.limit
  pub asked : e.sides.send.entries ≡ (size_sent e).entries
  pub limit : e.sides.send.limit ≡ lesser (size_sent e).limit (size_sent g).limit
  pub equal : e.shake.both_new ≡ false → (size_sent e).limit ≡ (size_sent g).limit

-- which sizes two ends in contact know, and when they have one limit
pub record Limits (s : Scenario) (h : List Event) : Type 0 where
  -- in one epoch, the size that came with an open request which was handled is the one that the
  -- sender asks for
  pub known : (p q c : ℕ) → IsLine s p q c → InContact (end_at s h p q c) →
      InContact (end_at s h q p c) → (end_at s h p q c).epoch ≡ (end_at s h q p c).epoch →
      (end_at s h q p c).shake.got.open_request ≡ true →
      size_got (end_at s h q p c) ≡ size_sent (end_at s h p q c)
  -- an open reply is sent only where a limit is agreed
  pub replied : (p q c : ℕ) → IsLine s p q c → InContact (end_at s h p q c) →
      (end_at s h p q c).shake.sent.open_reply ≡ true →
      is_some (agreed (end_at s h p q c).shake) ≡ true
  -- two ends in one epoch that have both sent their open complete have one limit
  pub open_limit : (p q c : ℕ) → IsLine s p q c → InContact (end_at s h p q c) →
      InContact (end_at s h q p c) → (end_at s h p q c).epoch ≡ (end_at s h q p c).epoch →
      (end_at s h p q c).shake.sent.open_complete ≡ true →
      (end_at s h q p c).shake.sent.open_complete ≡ true →
      HaveOneLimit (end_at s h p q c) (end_at s h q p c)
  -- two ends of which one may copy the other's words have one limit
  pub one_limit : (p q c : ℕ) → IsLine s p q c → may_copy (end_at s h p q c) ≡ true →
      InContact (end_at s h q p c) → HaveOneLimit (end_at s h p q c) (end_at s h q p c)
  -- each partition's version word is the scenario's at any time, and an end in contact judges by
  -- its own and its partner's: so both judge alike
  pub versions : VersionsStand s (memory_by (opening s) h)
  pub judged : (p q c : ℕ) → IsLine s p q c → InContact (end_at s h p q c) →
      (end_at s h p q c).shake.both_new
      ≡ are_new (version_word (minor_of p s.minors)) (version_word (minor_of q s.minors))
