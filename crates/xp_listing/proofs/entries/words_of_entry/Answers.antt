use Rattle.std.proofs.Common.{◌≡◌, ◌≢◌, ℕ, ◌+◌, ◌*◌, ◌/◌, ◌%◌, ◌<◌, ◌≤◌, length, ◌∙◌, ap, below_more, arith}
use Rattle.std.proofs.lemmas.List.{get_or-set_same, get_or-set_other, length-set}
use Rattle.std.proofs.lemmas.List.FromFn.{fill_by_all}
use Rattle.xp_base.specs.declared.layout.TheConstants.{LINES, LINE_WORDS}
use Rattle.xp_base.specs.Memory.{word_at}
use Rattle.xp_base.specs.Places.{index_of, Entry}
use Rattle.xp_listing.specs.Listing.{partner_at, channel_at}
use Rattle.xp_listing.proofs.entries.words_of_entry.Goals as goal

pub loop-field-preserved : goal.loop-field-preserved
loop-field-preserved c =
    let whole = c.loop-field.invariant.size in
    let low = c.loop-field-test.true in
    let size : c.loop-field.field < length c.loop-field.entry = omega arith in
    let w : ℕ = LINE_WORDS * (c.args.i % LINES) + c.loop-field.field in
    record {
      size = length-set c.loop-field.entry c.loop-field.field c.at.result ∙ whole;
      told = below_more _ _
          (λ k h. let ne : k ≢ c.loop-field.field = omega arith in
          get_or-set_other c.loop-field.entry c.loop-field.field k c.at.result 0 ne
          ∙ c.loop-field.invariant.told k h)
          (get_or-set_same c.loop-field.entry c.loop-field.field c.at.result 0 size ∙ c.at.ensures
          ∙ ap (word_at c.args.words.now c.args.owner)
          (c.entry.ensures ∙ ap
          (λ (q : ℕ). index_of
          (Entry q c.channel_of-channel.result w)) c.partner_of-partner.ensures
          ∙ ap (λ (x : ℕ). index_of
          (Entry (partner_at (c.args.i / LINES)) x w)) c.channel_of-channel.ensures));
    }

pub returns : goal.returns
returns c =
    let all : LINE_WORDS ≤ c.loop-field.field = c.loop-field-test.false in
    let size : length c.loop-field.entry ≡ LINE_WORDS = c.loop-field.invariant.size in
    fill_by_all (λ f. word_at c.args.words.now c.args.owner
    (index_of (Entry (partner_at (c.args.i / LINES)) (channel_at (c.args.i / LINES))
    (LINE_WORDS * (c.args.i % LINES) + f)))) c.loop-field.entry LINE_WORDS 0 size
    (λ k h. c.loop-field.invariant.told k (omega arith))
