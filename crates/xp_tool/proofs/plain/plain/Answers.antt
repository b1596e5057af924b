use Rattle.xp_tool.specs.Plain.{plain_command_of}
use Rattle.xp_tool.proofs.Outcomes.{usage_of, read_of, write_of, bad_of, long_of, ok_of, cut_of, memory_of, kept_of, unread_of, reads_of, writes_of, end_of_call, no_command_of, complete_of, refuses_of, refuses_long_of}
use Rattle.xp_tool.proofs.plain.plain.Goals as goal

pub returns : goal.returns
returns g c =
    let l = g.S.Source.left in
    let r = g.S.Source.faults in
    let h = g.K.Sink.held in
    let w = g.K.Sink.faults in
    let o = plain_command_of c.args.words.now in
    let s = c.args.source.now in
    let s' = c.perform.new.source in
    let k = c.args.sink.now in
    let k' = c.perform.new.sink in
    let e = c.perform.result.end in
    let st = c.perform.result.status in
    let t = c.perform.ensures.outcome in
    record {
      usage = usage_of l r h w o s s' k k' e st t;
      read = read_of l r h w o s s' k k' e st t;
      write = write_of l r h w o s s' k k' e st t;
      bad = bad_of l r h w o s s' k k' e st t;
      too_long = long_of l r h w o s s' k k' e st t;
      ok = ok_of l r h w o s s' k k' e st t;
      cut = cut_of l r h w o s s' k k' e st t;
      memory = memory_of l r h w o s s' k k' e st t;
      kept = kept_of l r h w o s s' k k' e st t;
      unread = unread_of l r h w o s s' k k' e st t;
      reads_nothing = c.perform.ensures.unread;
      count_of_reads = reads_of l r h w o s s' k k' e st t;
      count_of_writes = writes_of l r h w o s s' k k' e st t;
      end = end_of_call l r h w o s s' k k' e st t;
      no_command = no_command_of l r h w o s s' k k' e st t;
      complete = complete_of l r h w o s s' k k' e st t c.requires.reads c.requires.writes;
      refuses = refuses_of l r h w o s s' k k' e st t c.requires.reads;
      refuses_long = refuses_long_of l r h w o s s' k k' e st t c.requires.reads;
    }
