use Rattle.std.proofs.Common.{ℕ, ◌+◌, ◌*◌, ◌<◌, ◌≤◌, ◌/◌, ◌%◌, arith, ap, sym, refl, subst, ◌∙◌, length}
use Rattle.std.specs.Mem.Slots.{slots_items}
use Rattle.xp_base.specs.declared.layout.TheConstants.{PART_WORDS}
use Rattle.xp_base.specs.Memory.{put_at}
use Rattle.xp_fabric.proofs.Closing.{SomeWordsPut, owner_low, put-none, put-next, put-all, length-put_at}
use Rattle.xp_fabric.proofs.shared.put_words.Goals as goal

pub known-owner-requires : goal.known-owner-requires
known-owner-requires c =
    let low = owner_low PART_WORDS c.loop-place.place (length c.args.into.now) (omega arith) (subst (λ (k : ℕ). c.loop-place.place < k) c.flat-all.ensures.length c.loop-place-test.true) in
    let range = c.count-count.ensures.range in
    omega arith

pub overflow_cast-place : goal.overflow_cast-place
overflow_cast-place c =
    let low = owner_low PART_WORDS c.loop-place.place (length c.args.into.now) (omega arith) (subst (λ (k : ℕ). c.loop-place.place < k) c.flat-all.ensures.length c.loop-place-test.true) in
    let range = c.count-count.ensures.range in
    omega arith

pub loop-place-init : goal.loop-place-init
loop-place-init c = (put-none PART_WORDS (slots_items c.args.closed.now.words) c.flat-all.result.now (length c.args.into.now) c.args.into.now c.flat-all.ensures.rows c.flat-all.ensures.length, refl)

pub loop-place-preserved : goal.loop-place-preserved
loop-place-preserved c =
    let items = slots_items c.args.closed.now.words in
    let n = length c.args.into.now in
    let place = c.loop-place.place in
    let at = c.set.ensures ∙ ap (λ (o : ℕ). put_at c.loop-place.into o (place % PART_WORDS) c.word.result) c.known-owner.ensures in
    let in_all : place < PART_WORDS * n = subst (λ (k : ℕ). place < k) c.flat-all.ensures.length c.loop-place-test.true in (
      subst (SomeWordsPut PART_WORDS items n (place + 1)) (sym at) (put-next PART_WORDS items n place c.word.result c.loop-place.into (omega arith) in_all c.word.ensures c.loop-place.invariant.0),
      ap length at ∙ (length-put_at c.loop-place.into (place / PART_WORDS) (place % PART_WORDS) c.word.result ∙ c.loop-place.invariant.1),
    )

pub returns-clause-words : goal.returns-clause-words
returns-clause-words c =
    put-all PART_WORDS (slots_items c.args.closed.now.words) (length c.args.into.now) c.loop-place.place c.loop-place.into
    (subst (λ (k : ℕ). k ≤ c.loop-place.place) c.flat-all.ensures.length c.loop-place-test.false) c.requires.items c.loop-place.invariant.0
