-- What is read is put after the bytes of the other tables.
use Rattle.std.proofs.Common.{◌≡◌, ◌∙◌, ◌-◌, ◌+◌, ◌<◌, ◌≤◌, ◌^◌, List, ℕ, IsOk, length, take, drop, arith}
use Rattle.std.proofs.lemmas.List.{length-drop, length-take}
use Rattle.elf_resolve.proofs.StringBufferLaws.{filled, grown_long, grown_put, read_text, texts_kept}
use Rattle.elf_resolve.proofs.string_buffer.StringBuffer.read.Goals as goal

pub returns-clause-stays : goal.returns-clause-stays
returns-clause-stays g c =
    let b0 : List ℕ = c.self.inside.bytes.items in
    let start : ℕ = c.len-start.result in
    let end : ℕ = c.in-Some.end in
    let grown : List ℕ = c.deref_mut.result.now in
    let out : List ℕ = c.read_all.new.out in
    let from : start ≡ length b0 = omega (arith, c.self.inside.bytes.ok.0) in
    let within : start ≤ end = omega (arith, c.in-Some.ensures.end.0) in
    let ok : IsOk c.resize.result = c.resize.ensures.succeeds (omega (arith, c.in-Some.ensures.end.1, c.self.invariant.1)) in
    let kept = filled c.resize.new.self grown out start (end - start) c.deref_mut.ensures.value c.read_all.auto.out in
    let put = kept ∙ grown_put c.resize.result b0 c.resize.new.self.items grown out c.self.inside.bytes.len start end ok c.self.inside.bytes.ok.0 from within c.deref_mut.ensures.value c.resize.ensures.items in
    texts_kept c.args.self.now b0 _ out c.self.inside.most c.self.view_is put

pub returns-clause-reads : goal.returns-clause-reads
returns-clause-reads g c = λ file known.
    let b0 : List ℕ = c.self.inside.bytes.items in
    let start : ℕ = c.len-start.result in
    let end : ℕ = c.in-Some.end in
    let grown : List ℕ = c.deref_mut.result.now in
    let out : List ℕ = c.read_all.new.out in
    let from : start ≡ length b0 = omega (arith, c.self.inside.bytes.ok.0) in
    let within : start ≤ end = omega (arith, c.in-Some.ensures.end.0) in
    let ok : IsOk c.resize.result = c.resize.ensures.succeeds (omega (arith, c.in-Some.ensures.end.1, c.self.invariant.1)) in
    let kept = filled c.resize.new.self grown out start (end - start) c.deref_mut.ensures.value c.read_all.auto.out in
    let put = kept ∙ grown_put c.resize.result b0 c.resize.new.self.items grown out c.self.inside.bytes.len start end ok c.self.inside.bytes.ok.0 from within c.deref_mut.ensures.value c.resize.ensures.items in
    let sized : end - start ≡ c.args.size = omega (arith, c.in-Some.ensures.end.0) in
    let fits : start + c.args.size < 2 ^ 64 = omega (arith, c.in-Some.ensures.end.0) in
    let long : length grown ≡ end = grown_long c.resize.result b0 c.resize.new.self.items grown c.self.inside.bytes.len start end ok c.self.inside.bytes.ok.0 from within c.deref_mut.ensures.value c.resize.ensures.items in
    let part : length (take (end - start) (drop start grown)) ≡ c.args.size = length-take (end - start) (drop start grown) ∙ omega (arith, length-drop start grown, long, sized) in
    let read = c.in_ok-read_all.ensures.reads file known in
    read_text file c.args.at c.args.size _ (end - start) start c.args.self.now b0 _ out c.self.inside.most c.self.view_is from part sized fits read.0 read.1 put

pub returns-in_err-read_all-clause-stays : goal.returns-in_err-read_all-clause-stays
returns-in_err-read_all-clause-stays g c =
    let b0 : List ℕ = c.self.inside.bytes.items in
    let start : ℕ = c.len-start.result in
    let end : ℕ = c.in-Some.end in
    let grown : List ℕ = c.deref_mut.result.now in
    let out : List ℕ = c.read_all.new.out in
    let from : start ≡ length b0 = omega (arith, c.self.inside.bytes.ok.0) in
    let within : start ≤ end = omega (arith, c.in-Some.ensures.end.0) in
    let ok : IsOk c.resize.result = c.resize.ensures.succeeds (omega (arith, c.in-Some.ensures.end.1, c.self.invariant.1)) in
    let kept = filled c.resize.new.self grown out start (end - start) c.deref_mut.ensures.value c.read_all.auto.out in
    let put = kept ∙ grown_put c.resize.result b0 c.resize.new.self.items grown out c.self.inside.bytes.len start end ok c.self.inside.bytes.ok.0 from within c.deref_mut.ensures.value c.resize.ensures.items in
    texts_kept c.args.self.now b0 _ out c.self.inside.most c.self.view_is put

pub returns-in_err-read_all-clause-empty : goal.returns-in_err-read_all-clause-empty
returns-in_err-read_all-clause-empty g c = λ none.
    let e = c.in_err-read_all.ensures.empty (length-take _ _ ∙ omega (arith, c.in-Some.ensures.end.0)) in
    cc
