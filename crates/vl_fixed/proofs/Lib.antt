mod Far
