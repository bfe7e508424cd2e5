use Rattle.std.proofs.Common.{[], ◌≡◌, ◌∙◌, ◌||◌, Ok, Err, sym, ap, inr, true, rules, Bool, is_ok}
use Rattle.{csv.specs.{Records.fields_of, Reading.strip_bom}, xbar_traffic.specs.{Numbers.contains, Traffic.{has_number, is_in_rows}}}
use Rattle.xbar_traffic.proofs.{OneReading.{rows_in_range, rows_of_mode}, RowsSoFar.{judged_by_same, is_in_rows-more}, UnderWay.{begins, ends, goes_on, stops}}
use Rattle.xbar_traffic.proofs.traffic.Traffic.read.Goals as goal

pub loop-row-init : goal.loop-row-init
loop-row-init c =
    let from = c.from_reader-reader.ensures in
    let flexible = c.flexible.ensures in
    let named = c.has_headers.ensures in
    rw c.new-rows.ensures.items record {
      reading = begins c.args.mode (strip_bom c.args.bytes.now) c.from_reader-reader.result
          (rw (flexible, named) at from.trim ∙ c.new.ensures.trim)
          (inr (inr (rw (flexible, named) at from.has_headers, from.headers)))
          (rw (flexible, named) at from.config ∙ c.new.ensures.config)
          (rw flexible at from.flexible)
          from.source from.state;
      numbers = c.in_ok-numbers.ensures;
    }

pub returns-in-Ok-false-clause-traffic : goal.returns-in-Ok-false-clause-traffic
returns-in-Ok-false-clause-traffic c =
    let u = c.loop-row.invariant.reading in
    let ended = rw c.in-Ok-false.field-0-test at (c.in-Ok-false.ensures.reads u.trim u.ready) in
    ends c.args.mode (strip_bom c.args.bytes.now) c.loop-row.reader c.read_byte_record.new.self c.loop-row.rows.items (fields_of c.read_byte_record.new.row) u
    ended

pub returns-in-Err-judge-clause-traffic : goal.returns-in-Err-judge-clause-traffic
returns-in-Err-judge-clause-traffic c =
    let u = c.loop-row.invariant.reading in
    let took = rw c.in-Ok-true.field-0-test at (c.in-Ok-true.ensures.reads u.trim u.ready) in
    let judged = rw c.in-Err-judge.is at c.judge.ensures.judged in
    stops c.args.mode (strip_bom c.args.bytes.now) c.loop-row.reader c.read_byte_record.new.self c.loop-row.rows.items (fields_of c.read_byte_record.new.row)
    c.in-Err-judge.fault u took
    (judged_by_same c.args.mode (contains c.loop-row.numbers) (is_in_rows c.loop-row.rows.items) c.loop-row.invariant.numbers
    (fields_of c.read_byte_record.new.row) (Err c.in-Err-judge.fault) judged)

pub returns-in-Ok-false-clause-range : goal.returns-in-Ok-false-clause-range
returns-in-Ok-false-clause-range c = rows_in_range c.args.mode [] _ _ _ (returns-in-Ok-false-clause-traffic c)

pub returns-in-Ok-false-clause-mode : goal.returns-in-Ok-false-clause-mode
returns-in-Ok-false-clause-mode c = rows_of_mode c.args.mode [] _ _ _ (returns-in-Ok-false-clause-traffic c)

pub returns-in-Err-judge-clause-range : goal.returns-in-Err-judge-clause-range
returns-in-Err-judge-clause-range c = rows_in_range c.args.mode [] _ _ _ (returns-in-Err-judge-clause-traffic c)

pub returns-in-Err-judge-clause-mode : goal.returns-in-Err-judge-clause-mode
returns-in-Err-judge-clause-mode c = rows_of_mode c.args.mode [] _ _ _ (returns-in-Err-judge-clause-traffic c)

pub loop-row-preserved : goal.loop-row-preserved
loop-row-preserved c =
    let u = c.loop-row.invariant.reading in
    let took = rw c.in-Ok-true.field-0-test at (c.in-Ok-true.ensures.reads u.trim u.ready) in
    let judged = rw c.in-Ok.is at c.judge.ensures.judged in
    let numbers = rw c.in-Ok.is at c.judge.ensures.numbers in
    let good : is_ok c.extend_from_slice.result ≡ true = search rules in
    let items = rw good at c.extend_from_slice.ensures.items in
    rw items record {
      reading =
          goes_on c.args.mode (strip_bom c.args.bytes.now) c.loop-row.reader c.read_byte_record.new.self c.loop-row.rows.items
          (fields_of c.read_byte_record.new.row) c.in-Ok.row u took
          (c.in-Ok-true.ensures.ready u.trim) c.in-Ok-true.ensures.flexible
          (judged_by_same c.args.mode (contains c.loop-row.numbers) (is_in_rows c.loop-row.rows.items) c.loop-row.invariant.numbers
          (fields_of c.read_byte_record.new.row) (Ok c.in-Ok.row) judged);
      numbers = λ number. numbers number ∙ ap (λ (seen : Bool). seen || has_number number c.in-Ok.row) (c.loop-row.invariant.numbers number)
          ∙ sym (is_in_rows-more c.loop-row.rows.items c.in-Ok.row number);
    }
