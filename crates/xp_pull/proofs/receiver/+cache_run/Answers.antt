use Rattle.std.proofs.Common.{◌≡◌, ℕ, ◌+◌, ◌-◌, ◌*◌, ◌<◌, ◌≤◌, ◌++◌, ◌∷◌, [], List, length, arith, ap, sym, ◌∙◌, subst, length-append}
use Rattle.std.proofs.lemmas.List.{append_assoc}
use Rattle.xp_base.specs.Entries.{entry_words, body_of}
use Rattle.xp_protocol.specs.Pulling.{run_bodies}
use Rattle.xp_pull.specs.Cached.{AreFitting}
use Rattle.xp_pull.proofs.Runs.{fitting_rest, bodies_more, less_of}
use Rattle.xp_pull.proofs.receiver.+cache_run.Goals as goal

pub cache_run-requires : goal.cache_run-requires
cache_run-requires t c =
    let d : c.args.run ≡ 0 → ⊥ = c.if-run-eq0.false in
    let rest : AreFitting c.args.limit (c.args.run - 1) c.after_first.result.now = subst (λ (ws : List ℕ). AreFitting c.args.limit (c.args.run - 1) ws) (sym c.after_first.ensures.words) (fitting_rest c.args.limit c.args.run c.args.words.now d c.requires.fitting) in
    let more = ap length c.push.ensures ∙ length-append c.args.cache.now (c.of_words.result ∷ []) in
    (omega (arith, d, c.decreases), (c.after_first.ensures.length ∙ ap (λ (k : ℕ). k - entry_words c.args.limit) c.requires.words ∙ less_of (entry_words c.args.limit) c.args.run d, (c.requires.limit, (rest, omega (arith, more, d, c.requires.room)))))

pub returns-clause-cache : goal.returns-clause-cache
returns-clause-cache t c =
    let d : c.args.run ≡ 0 → ⊥ = c.if-run-eq0.false in
    let rest = run_bodies c.args.limit (c.args.run - 1) c.after_first.result.now in
    c.cache_run.ensures.cache ∙ ap (λ (xs : List (List ℕ)). xs ++ rest) (c.push.ensures ∙ ap (λ (b : List ℕ). c.args.cache.now ++ b ∷ []) c.of_words.ensures)
    ∙ append_assoc c.args.cache.now (body_of c.args.words.now ∷ []) rest
    ∙ ap (λ (ws : List ℕ). c.args.cache.now ++ (body_of c.args.words.now ∷ run_bodies c.args.limit (c.args.run - 1) ws)) c.after_first.ensures.words
    ∙ ap (λ (xs : List (List ℕ)). c.args.cache.now ++ xs) (sym (bodies_more c.args.limit c.args.run c.args.words.now d))
