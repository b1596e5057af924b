use Rattle.std.proofs.Common.{◌≡◌, ℕ, ◌+◌, ◌*◌, ◌<◌, length, mul-le-mul_left, arith}
use Rattle.xp_base.specs.declared.layout.TheConstants.{PART_WORDS}
use Rattle.xp_fabric.proofs.RuleLemmas.{loads, stores, ors, ands, takes}
use Rattle.xp_fabric.proofs.shared.perform_at.Goals as goal

inside : (size o i n words : ℕ) → o < n → i < size → words ≡ size * n → size * o + i < words
inside size o i n words low within e = let row = mul-le-mul_left size low in omega arith

pub load-requires : goal.load-requires
load-requires c =
    let t = c.args.shared.now in let s = c.args.seat.now in let o = c.args.op.now.owner in let i = c.args.op.now.index in let r = c.requires in
    let place = inside PART_WORDS o i (length t.key) t.table_id.words r.owner r.index r.words in
    rw c.get.ensures.value (r.table, place, loads PART_WORDS t.key t.table_id.slots s.id o i s.me r.owner r.index r.seat)

pub store-requires : goal.store-requires
store-requires c =
    let t = c.args.shared.now in let s = c.args.seat.now in let o = c.args.op.now.owner in let i = c.args.op.now.index in let r = c.requires in
    let place = inside PART_WORDS o i (length t.key) t.table_id.words r.owner r.index r.words in
    rw c.get.ensures.value (r.table, place, stores PART_WORDS t.key t.table_id.slots s.id o i s.me r.owner r.index r.seat c.in-Store.word)

pub fetch_or-requires : goal.fetch_or-requires
fetch_or-requires c =
    let t = c.args.shared.now in let s = c.args.seat.now in let o = c.args.op.now.owner in let i = c.args.op.now.index in let r = c.requires in
    let place = inside PART_WORDS o i (length t.key) t.table_id.words r.owner r.index r.words in
    rw c.get.ensures.value (r.table, place, ors PART_WORDS t.key t.table_id.slots s.id o i s.me r.owner r.index r.seat c.in-Or.word)

pub fetch_and-requires : goal.fetch_and-requires
fetch_and-requires c =
    let t = c.args.shared.now in let s = c.args.seat.now in let o = c.args.op.now.owner in let i = c.args.op.now.index in let r = c.requires in
    let place = inside PART_WORDS o i (length t.key) t.table_id.words r.owner r.index r.words in
    rw c.get.ensures.value (r.table, place, ands PART_WORDS t.key t.table_id.slots s.id o i s.me r.owner r.index r.seat c.in-And.word)

pub swap-requires : goal.swap-requires
swap-requires c =
    let t = c.args.shared.now in let s = c.args.seat.now in let o = c.args.op.now.owner in let i = c.args.op.now.index in let r = c.requires in
    let place = inside PART_WORDS o i (length t.key) t.table_id.words r.owner r.index r.words in
    rw c.get.ensures.value (r.table, place, takes PART_WORDS t.key t.table_id.slots s.id o i s.me r.owner r.index r.seat)
