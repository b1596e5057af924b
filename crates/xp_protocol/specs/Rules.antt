-- The steps of a partition by what they may change. All that depends on the single rule stands with
-- its end, its partner or its partition: when it is permitted, its word, what becomes of what it
-- changes. Here is what is the same for all.
use Rattle.xp_base.specs.Windows.{back_off_of}
use Rattle.std.specs.Prelude.{◌≡◌, ℕ, ◌+◌, ◌-◌, ◌<◌, not, ◌&&◌, if◌then◌else◌, nat_eq, nat_lt, is_some, List, [], slice_set, slice_index_or, Option, Some, None, IsSome}
use Rattle.xp_base.specs.declared.step.Op.{Op}
use Rattle.xp_base.specs.declared.step.CopyKind.{CopyKind}
use Rattle.xp_base.specs.declared.step.CopyKind.TheVariants.{Counters, Get, Entries, Page as PageCopy, Beat as BeatCopy, Record as RecordCopy, Args}
use Rattle.xp_base.specs.declared.step.CopyMark.{CopyMark}
use Rattle.xp_base.specs.declared.step.Wanted.{Wanted}
use Rattle.xp_base.specs.declared.step.Answer.{Answer}
use Rattle.xp_base.specs.declared.step.Answer.TheVariants.{Word, Failed}
use Rattle.xp_base.specs.declared.reason.Reason.{Reason}
use Rattle.xp_base.specs.declared.reason.Reason.TheVariants.{CopyError}
use Rattle.xp_base.specs.Places.{Entry, index_of}
use Rattle.xp_protocol.specs.declared.rule.LinkRule.{LinkRule}
use Rattle.xp_protocol.specs.declared.rule.LinkRule.TheVariants.{Ring}
use Rattle.xp_protocol.specs.declared.rule.RingRule.TheVariants.{AcceptMessage}
use Rattle.xp_protocol.specs.declared.rule.PeerRule.{PeerRule}
use Rattle.xp_protocol.specs.declared.rule.PeerRule.TheVariants.{ZeroMagic, ClearOldBit}
use Rattle.xp_protocol.specs.declared.rule.OwnRule.TheVariants.{ReadStamp, ZeroMask, ZeroOffline, WriteStamp}
use Rattle.xp_protocol.specs.declared.rule.OwnRule.{OwnRule}
use Rattle.xp_protocol.specs.declared.rule.Rule.{Rule}
use Rattle.xp_protocol.specs.declared.rule.Rule.TheVariants.{Link, Peer as ForPeer, Own}
use Rattle.xp_script.specs.declared.part.ScenarioPart.{ScenarioPart}
use Rattle.xp_script.specs.declared.command.Command.{Command}
use Rattle.xp_script.specs.declared.command.Command.TheVariants.{Offline, Online}
use Rattle.xp_protocol.specs.Parts.{IsEndOf}
use Rattle.xp_protocol.specs.Acts.{current, has_stored}
use Rattle.xp_protocol.specs.Effects.{Effect, Copied, Row, Note}
use Rattle.xp_protocol.specs.State.{State, End, Peer, PeerGoing, Beats, Going, Copies, Life, Up, Booting, Halted, Boot, Ready, end_of, peer_of, set_link, version_of}
use Rattle.xp_protocol.specs.Linking.{link_can, link_row, link_effect, copy_failed}
use Rattle.xp_protocol.specs.Peering.{Here, Mine, is_flagged, peer_can, peer_row, peer_effect, own_can, own_row, own_effect, beats_by, boot_after, stamp_after, with_reason, end_reason, with_copy, peer_failed, failed_reason}

-- a channel on which steps are permitted: its partner is in contact, and no reason to deactivate it
-- stands
pub record IsUsable (s : ScenarioPart) (st : State) (q c : ℕ) : Type 0 where
  pub peer : IsEndOf s.part s.count q c
  pub contact : IsSome (peer_of st q).contact
  pub free : (peer_of st q).engage.reason ≡ None
  pub ready : (peer_of st q).engage.area ≡ Ready

pub record IsPartner (s : ScenarioPart) (q : ℕ) : Type 0 where
  pub low : q < s.count
  pub other : q ≡ s.part → ⊥

-- what a step for a partner reads besides it. The turn is the present one, which is counted at its
-- end
abbrev pub here_of : ScenarioPart → State → ℕ → Here
here_of s st q =
    record {
      part = s.part;
      version = version_of s s.part;
      turn = st.clock.turns + 1;
      wait = back_off_of s.count;
      check = s.check;
      masked = is_flagged st.beats.mask q;
      stamp = st.stamp;
      read = is_some st.boot.read;
    }

-- what a command makes of the offline count: `offline` raises it, and `online` lowers it, unless it
-- is 0. The one in progress stores it once
abbrev pub offline_by : Option Command → ℕ → Option ℕ
offline_by (Some Offline) count = Some (count + 1)
offline_by (Some Online) count = if nat_eq count 0 then None else Some (count - 1)
offline_by x count = None

abbrev pub offline_asked : ScenarioPart → State → Option ℕ
offline_asked s st =
    if st.script.doing && not (has_stored st) then offline_by (current s st) st.beats.offline
    else None

-- what a step of the partition as a whole reads besides its partners
abbrev pub mine_of : ScenarioPart → State → Mine
mine_of s st =
    record {
      boot = st.boot;
      beats = st.beats;
      begun = st.script.begun;
      offline = offline_asked s st;
    }

abbrev pub CanBy : ScenarioPart → State → Rule → Type 0
CanBy s st (Link q c m) = IsUsable s st q c × link_can (end_of st q c) m
CanBy s st (ForPeer q m) = IsPartner s q × peer_can (here_of s st q) (peer_of st q) m
CanBy s st (Own m) = own_can s.part s.count (mine_of s st) st.peers m

-- few steps are permitted in a boot, and all others after it
abbrev pub peer_life : PeerRule → Life
peer_life ZeroMagic = Booting
peer_life ClearOldBit = Booting
peer_life m = Up

abbrev pub own_life : OwnRule → Life
own_life ReadStamp = Booting
own_life ZeroMask = Booting
own_life ZeroOffline = Booting
own_life WriteStamp = Booting
own_life m = Up

abbrev pub life_for : Rule → Life
life_for (Link q c m) = Up
life_for (ForPeer q m) = peer_life m
life_for (Own m) = own_life m

-- when a step is permitted
abbrev pub Can : ScenarioPart → State → Rule → Type 0
Can s st r = (st.life ≡ life_for r) × CanBy s st r

-- the stamp ends a boot; one that can't be raised halts the partition
abbrev pub own_lives : OwnRule → ℕ → Life → Life
own_lives WriteStamp w life = Up
own_lives ReadStamp w life = if nat_lt w 4294967295 then life else Halted
own_lives m w life = life

abbrev pub life_after : Rule → Answer → Life → Life
life_after (Own m) (Word w) life = own_lives m w life
life_after r a life = life

abbrev pub row_of : ScenarioPart → State → Rule → Row
row_of s st (Link q c m) = link_row s.part q c (end_of st q c) m
row_of s st (ForPeer q m) = peer_row s.part st.stamp q (peer_of st q) m
row_of s st (Own m) = own_row (mine_of s st) st.peers m

-- whose word the step works on
abbrev pub partner_of : ScenarioPart → Rule → ℕ
partner_of s (Link q c m) = q
partner_of s (ForPeer q m) = q
partner_of s (Own m) = s.part

abbrev pub owner : ScenarioPart → State → Rule → ℕ
owner s st r = if (row_of s st r).own then s.part else partner_of s r

abbrev pub op_of : ScenarioPart → State → Rule → Op
op_of s st r =
    record {
      owner = owner s st r;
      index = index_of (row_of s st r).place;
      kind = (row_of s st r).kind;
    }

-- the number of a copy: of a new one where its first word is loaded, and else of the one that goes
-- on
abbrev pub begun_of : CopyKind → Copies → ℕ
begun_of Args x = x.args
begun_of Counters x = x.counters
begun_of Get x = x.get
begun_of Entries x = x.entries
begun_of RecordCopy x = x.records
begun_of PageCopy x = x.pages
begun_of BeatCopy x = x.beats
begun_of kind x = 0

-- the numbers of the copies that go on stand beside the ends, by channel
abbrev pub no_going : Going
no_going = record { counters = 0; entries = 0 }

abbrev pub going_of : CopyKind → Going → ℕ
going_of Counters x = x.counters
going_of Entries x = x.entries
going_of kind x = 0

abbrev pub with_going : CopyKind → ℕ → Going → Going
with_going Counters number x = record x { counters = number }
with_going Entries number x = record x { entries = number }
with_going kind number x = x

abbrev pub going_in : Peer → ℕ → Going
going_in p c = slice_index_or p.going c no_going

abbrev pub peer_going : CopyKind → PeerGoing → ℕ
peer_going RecordCopy x = x.records
peer_going PageCopy x = x.pages
peer_going BeatCopy x = x.beats
peer_going kind x = 0

abbrev pub going_at : State → Rule → CopyKind → ℕ
going_at st (Link q c m) kind = going_of kind (going_in (peer_of st q) c)
going_at st (ForPeer q m) kind = peer_going kind (peer_of st q).numbers
going_at st (Own m) kind = 0

abbrev pub number_of : State → Rule → Copied → ℕ
number_of st r x =
    if nat_eq x.word 0 then begun_of x.kind st.clock.copies + 1 else going_at st r x.kind

abbrev pub mark_for : State → Rule → Option Copied → Option CopyMark
mark_for st r None = None
mark_for st r (Some x) = Some (record { kind = x.kind; number = number_of st r x; word = x.word })

abbrev pub mark_of : ScenarioPart → State → Rule → Option CopyMark
mark_of s st r = mark_for st r (row_of s st r).copy

abbrev pub wanted_of : ScenarioPart → State → Rule → Wanted
wanted_of s st r = record { op = op_of s st r; mark = mark_of s st r }

-- how many copies of each kind were begun after a step
abbrev pub one_more : CopyKind → Copies → Copies
one_more Args x = record x { args = x.args + 1 }
one_more Counters x = record x { counters = x.counters + 1 }
one_more Get x = record x { get = x.get + 1 }
one_more Entries x = record x { entries = x.entries + 1 }
one_more RecordCopy x = record x { records = x.records + 1 }
one_more PageCopy x = record x { pages = x.pages + 1 }
one_more BeatCopy x = record x { beats = x.beats + 1 }
one_more kind x = x

abbrev pub counted : Option Copied → Copies → Copies
counted None x = x
counted (Some y) x = if nat_eq y.word 0 then one_more y.kind x else x

-- the number of the copy that goes on is kept
abbrev pub going_after : Option CopyMark → ℕ → List Going → List Going
going_after None c xs = xs
going_after (Some mark) c xs =
    slice_set xs c (with_going mark.kind mark.number (slice_index_or xs c no_going))

abbrev pub numbered : Option CopyMark → ℕ → Peer → Peer
numbered mark c p = record p { going = going_after mark c p.going }

-- a load of a copy failed: the copy is over, and the partner is to be deactivated
abbrev pub copy_error : Option CopyMark → Option Reason
copy_error None = None
copy_error (Some mark) = Some (CopyError mark.kind mark.number)

abbrev pub end_failed : Option CopyMark → End → End
end_failed None e = e
end_failed (Some mark) e = copy_failed mark.kind e

-- what becomes of what the rule may change
abbrev pub link_answered : Option CopyMark → ℕ → End → LinkRule → Answer → Effect End (List Note)
link_answered mark place e m (Word w) = link_effect place e m w
link_answered mark place e m Failed =
    record { local = end_failed mark e; reason = copy_error mark; notes = [] }

abbrev pub peer_numbered : Option CopyMark → Peer → Peer
peer_numbered None p = p
peer_numbered (Some mark) p = with_copy mark.kind mark.number p

abbrev pub peer_answered : Here → Option CopyMark → Peer → PeerRule → Answer →
    Effect Peer (ℕ → List Note)
peer_answered x mark p m (Word w) = peer_effect x (peer_numbered mark p) m w
peer_answered x mark p m Failed =
    record { local = peer_failed x.turn mark p; reason = failed_reason mark p; notes = λ c. [] }

abbrev pub own_answered : List Peer → OwnRule → Answer → Effect (List Peer) (ℕ → ℕ → List Note)
own_answered peers m (Word w) = own_effect peers m w
own_answered peers m Failed = record { local = peers; reason = None; notes = λ q c. [] }

-- where the partner's entries for an end begin
abbrev pub place_for : ScenarioPart → ℕ → ℕ
place_for s c = index_of (Entry s.part c 0)

-- all partners after a step, and what is noted at each end
abbrev pub peers_after : ScenarioPart → State → Rule → Answer → List Peer
peers_after s st (Link q c m) a =
    let f = link_answered (mark_of s st (Link q c m)) (place_for s c) (end_of st q c) m a in
    let p = numbered (mark_of s st (Link q c m)) c (peer_of st q) in
    slice_set st.peers q (with_reason (end_reason p.flags_seen f.reason) (set_link p c f.local))
peers_after s st (ForPeer q m) a =
    let f = peer_answered (here_of s st q) (mark_of s st (ForPeer q m)) (peer_of st q) m a in
    slice_set st.peers q (with_reason f.reason f.local)
peers_after s st (Own m) a = (own_answered st.peers m a).local

abbrev pub noted_rule : ScenarioPart → State → Rule → Answer → ℕ → ℕ → List Note
noted_rule s st (Link k d m) a q c =
    if nat_eq k q then (if nat_eq d c
    then (link_answered (mark_of s st (Link k d m)) (place_for s d) (end_of st k d) m a).notes
    else []) else []
noted_rule s st (ForPeer k m) a q c = if nat_eq k q
    then (peer_answered (here_of s st k) (mark_of s st (ForPeer k m)) (peer_of st k) m a).notes c
    else []
noted_rule s st (Own m) a q c = (own_answered st.peers m a).notes q c

-- what a boot has done, and the stamp that it ends with
abbrev pub boot_by : State → Rule → Answer → Boot
boot_by st (Own m) (Word w) = boot_after st.boot m w
boot_by st r a = st.boot

abbrev pub stamp_by_rule : State → Rule → Answer → ℕ
stamp_by_rule st (Own m) (Word w) = stamp_after st.boot m st.stamp
stamp_by_rule st r a = st.stamp

-- the own heartbeat, as it was stored
abbrev pub beats_after : ScenarioPart → State → Rule → Answer → Beats
beats_after s st (Own m) (Word w) = beats_by (mine_of s st) st.peers m
beats_after s st r a = st.beats

-- how many messages were put
abbrev pub puts_after : Rule → Answer → ℕ → ℕ
puts_after (Link q c (Ring AcceptMessage)) (Word w) puts = puts + 1
puts_after r a puts = puts

-- what is known after a step
abbrev pub after_answer : ScenarioPart → State → Rule → Answer → State
after_answer s st r a =
    record st {
      life = life_after r a st.life;
      boot = boot_by st r a;
      stamp = stamp_by_rule st r a;
      beats = beats_after s st r a;
      clock = record st.clock {
        puts = puts_after r a st.clock.puts;
        copies = counted (row_of s st r).copy st.clock.copies;
      };
      peers = peers_after s st r a;
    }
