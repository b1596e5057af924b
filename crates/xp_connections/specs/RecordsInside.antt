-- How the records of an end stand for what is seen of them.
use Rattle.std.specs.Prelude.{◌≤◌, ◌+◌, ℕ, Bool, if◌then◌else◌, List, [], ◌∷◌, map, reverse, vec_len, vec_capacity}
use Rattle.xp_base.specs.declared.layout.TheConstants.{LINES}
use Rattle.xp_connections.specs.declared.record.TheConstants.{TURN_ROOM}
use Rattle.xp_connections.specs.declared.records.Records.TheInside.{Inside}
use Rattle.xp_connections.specs.Page.{Page, Pages, said_of}

abbrev pub first_calls : List Page → ℕ
first_calls [] = TURN_ROOM
first_calls (x ∷ more) = x.calls

abbrev pub first_ends : List Page → ℕ
first_ends [] = LINES
first_ends (x ∷ more) = x.ends

-- the view of records by their pages, the newest first
abbrev pub view_by : Inside → List Page → Pages
view_by x pages = record {
  partner = x.partner;
  channel = x.channel;
  said = map said_of pages;
  closed = x.closed.items;
  ongoing = x.ongoing;
  calls = first_calls pages;
  ends = first_ends pages;
  next = x.next;
}

abbrev pub view_of : Inside → Pages
view_of x = view_by x (reverse x.list.items)

abbrev pub one_if : Bool → ℕ
one_if b = if b then 1 else 0

pub record IsSound (x : Inside) : Type 0 where
  pub room : vec_len x.list + x.next ≤ vec_capacity x.list
  pub reasons : vec_len x.closed + (x.next + one_if x.ongoing) ≤ vec_capacity x.closed
