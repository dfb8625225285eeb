use Rattle.sample_interval.proofs.Common.{◌+ℤ◌, ◌-ℤ◌, ◌∙◌, ap, sym, subst, to_z-of_z, w128, IsLawfulSample, request_start, request_end, reply_start, reply_end}
use Rattle.sample_interval.proofs.NoOverflow.{end_is, rest_fits, less_is, more_is}
use Rattle.sample_interval.proofs.ExchangeSample.{same_sample, lawful}
use Rattle.sample_interval.proofs.bounds.sample.Goals as goal

pub overflow_sub-result : goal.overflow_sub-result
overflow_sub-result c =
    rest_fits c.request_window-request.result.start c.args.x.now.t2 c.args.x.now.distance
    c.request_window-request.ensures.start_in_range c.requires.exchange.lawful.t2 c.requires.exchange.lawful.distance

pub overflow_sub-result-3 : goal.overflow_sub-result-3
overflow_sub-result-3 c =
    rest_fits c.reply_window-reply.result.end c.args.x.now.t3 c.args.x.now.distance
    c.reply_window-reply.ensures.end_in_range c.requires.exchange.lawful.t3 c.requires.exchange.lawful.distance

pub returns-clause-exact : goal.returns-clause-exact
returns-clause-exact c =
    let reading = to_z-of_z w128 c.args.reading c.ranges.reading in
    same_sample
    (less_is c.request_window-request.result.start c.args.x.now.t2 c.args.x.now.distance
    c.request_window-request.ensures.start_in_range c.requires.exchange.lawful.t2 c.requires.exchange.lawful.distance
    ∙ ap (λ z. z -ℤ c.args.x.now.t2 -ℤ c.args.x.now.distance)
    (c.request_window-request.ensures.start ∙ ap (request_start c.args.x.now) reading))
    (end_is (request_start c.args.x.now) c.args.reading c.request_window-request.result.start c.ranges.reading
    c.request_window-request.ensures.start_in_range c.request_window-request.ensures.start)
    (end_is (request_end c.args.x.now) c.args.reading c.request_window-request.result.end c.ranges.reading
    c.request_window-request.ensures.end_in_range c.request_window-request.ensures.end)
    (more_is c.reply_window-reply.result.end c.args.x.now.t3 c.args.x.now.distance
    c.reply_window-reply.ensures.end_in_range c.requires.exchange.lawful.t3 c.requires.exchange.lawful.distance
    ∙ ap (λ z. z -ℤ c.args.x.now.t3 +ℤ c.args.x.now.distance)
    (c.reply_window-reply.ensures.end ∙ ap (reply_end c.args.x.now) reading))
    (end_is (reply_start c.args.x.now) c.args.reading c.reply_window-reply.result.start c.ranges.reading
    c.reply_window-reply.ensures.start_in_range c.reply_window-reply.ensures.start)
    (end_is (reply_end c.args.x.now) c.args.reading c.reply_window-reply.result.end c.ranges.reading
    c.reply_window-reply.ensures.end_in_range c.reply_window-reply.ensures.end)

pub returns-clause-lawful : goal.returns-clause-lawful
returns-clause-lawful c =
    subst IsLawfulSample (sym (returns-clause-exact c))
    (lawful c.args.x.now c.args.reading c.requires.exchange c.requires.from_zero c.requires.at_most_a_second)
