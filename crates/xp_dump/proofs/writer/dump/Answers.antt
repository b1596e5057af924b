use Rattle.std.proofs.Common.{◌≡◌}
use Rattle.xp_dump.specs.Grammar.{dump_bytes}
use Rattle.xp_dump.proofs.Back.{bytes_tell, told_once}
use Rattle.xp_dump.proofs.Flat.{dumped}
use Rattle.xp_dump.proofs.writer.dump.Goals as goal

pub returns-clause-bytes : goal.returns-clause-bytes
returns-clause-bytes c =
    dumped c.args.words.now c.flat-flat.result.now c.in_ok-out.out.items c.append.new.out.items
    c.append-2.new.out.items c.count.result
    c.in_ok-out.ensures.items c.in_ok-append.ensures c.in_ok-append-2.ensures c.count.ensures.value
    c.flat-flat.ensures.length c.flat-flat.ensures.rows

pub returns-clause-told : goal.returns-clause-told
returns-clause-told c = bytes_tell c.args.words.now c.append-2.new.out.items
    (returns-clause-bytes c)

pub returns-clause-alone : goal.returns-clause-alone
returns-clause-alone c m g told = told_once c.append-2.new.out.items m c.args.words.now told
    (returns-clause-told c g)
